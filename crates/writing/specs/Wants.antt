-- The word or the table that stands in out.
use Rattle.std.specs.Prelude.{◌≡◌, ℕ, ◌+◌, ◌*◌, ◌≤◌, List, length, take, drop, ◌≢◌}
use Rattle.areas.specs.declared.records.Record.{Record}
use Rattle.areas.specs.Layout.{Dims}
use Rattle.machines.specs.Words.{Word}
use Rattle.model.specs.Observations.{rows, table_of}
use Rattle.model.specs.Learners.{larger, waits_in}
use Rattle.model.specs.Models.{Model, learner_of, view_model}
use Rattle.promises.specs.declared.Wanted.{Wanted}
use Rattle.promises.specs.declared.Wanted.TheVariants.{Ask, Larger, Broken, NoStore, Short}
use Rattle.promises.specs.Outcomes.{WordWritten, TableWritten}
use Rattle.store.specs.Decoding.{page_of, model_of}
use Rattle.lookup.specs.Named.{Named, named_word}
use Rattle.moves.specs.Observed.{observed_at}

-- A word stands first in out, the rest of out is as it was, and as many letters are wanted an answer to.
pub record WordAsked (word : Word) (o o' : List ℕ) (r : Wanted) : Type 0 where
  pub asks : r ≡ Ask (length word)
  pub written : WordWritten word o o'

-- The word that a record names is asked about, if out has room for it.
abbrev pub AsksWord : List ℕ → Dims → Record → List ℕ → List ℕ → Wanted → Type 0
AsksWord w d word o o' r = Named (page_of w d) word → length (named_word (page_of w d) word) ≤ length o → WordAsked (named_word (page_of w d) word) o o' r

-- The table that is read off stands first in out, the rest of out is as it was.
pub record TableLaid (w : List ℕ) (d : Dims) (o o' : List ℕ) : Type 0 where
  pub front : take (rows (observed_at w d) * (d.keys + 1)) o' ≡ table_of d.keys d.most (observed_at w d) (model_of w d).successors
  pub behind : drop (rows (observed_at w d) * (d.keys + 1)) o' ≡ drop (rows (observed_at w d) * (d.keys + 1)) o

-- The table was written, if out has room for it, and has so many rows.
pub record WrittenTable (w : List ℕ) (d : Dims) (o o' : List ℕ) (r : ℕ) : Type 0 where
  pub count : r ≡ rows (observed_at w d)
  pub laid : rows (observed_at w d) * (d.keys + 1) ≤ length o → TableLaid w d o o'

-- What a learner wants, as it stands in out: the word that it asks about, the table that it shows; nothing is written where the box is larger, or where there is nothing that is wanted.
abbrev pub Wants : Model → List ℕ → List ℕ → Wanted → Type 0
Wants m o o' (Ask l) = (waits_in m.phase ≡ 1) × (l ≡ length (view_model m).asked) × WordWritten (view_model m).asked o o'
Wants m o o' (Wanted.Table r) = (waits_in m.phase ≡ 2) × (r ≡ (view_model m).rows) × TableWritten (learner_of m) o o'
Wants m o o' Larger = ((u : ℕ) × (m.phase ≡ larger u)) × (o' ≡ o)
Wants m o o' Broken = (waits_in m.phase ≡ 0) × ((u : ℕ) → m.phase ≢ larger u) × (o' ≡ o)
Wants m o o' NoStore = ⊥
Wants m o o' Short = ⊥
