-- A table that is shown, and words of its keys.
use Rattle.std.specs.Prelude.{◌≡◌, ℕ, suc, ◌+◌, ◌≤◌, List, length}
use Rattle.areas.specs.Layout.{Dims}
use Rattle.machines.specs.Words.{Word, Keys}
use Rattle.machines.specs.Tables.{shows}
use Rattle.model.specs.States.{store_words}
use Rattle.model.specs.Learners.{shows_table}
use Rattle.model.specs.Moves.{first_bisection}
use Rattle.model.specs.Pages.{observations_of, add_refuting}
use Rattle.model.specs.Models.{Model, view_model}
use Rattle.store.specs.Decoding.{model_of}
use Rattle.moves.specs.declared.phase.Search.{Search}
use Rattle.moves.specs.Changes.{on_page, refuted_times}
use Rattle.moves.specs.Holding.{Holds}
use Rattle.moves.specs.Observed.{page_at}
use Rattle.moves.specs.Phases.{search_value}

-- A memory holds a learner that shows a table, and the word is one of its keys.
pub record ShowsWord (w : List ℕ) (d : Dims) (word : Word) : Type 0 where
  pub holds : Holds w d
  pub shown : (model_of w d).phase ≡ shows_table
  pub of_keys : Keys d.keys word

-- The search along a refuting word, as it begins when the word's answer is kept.
abbrev pub BeginsSearch : List ℕ → Dims → Word → Search → Type 0
BeginsSearch w d word r = (a : ℕ) → search_value r ≡ first_bisection d.keys d.most (observations_of (add_refuting (page_at w d) word a)) (model_of w d).successors (length (page_at w d).entries)

-- The model with the answer to a refuting word kept, and the refutation counted.
abbrev pub kept_refutation : Model → Word → ℕ → Model
kept_refutation m word a = refuted_times (on_page m (add_refuting m.page word a)) (suc m.refutes)

-- A memory has the words that a caller is asked for with the letters of one refuting word more.
abbrev pub RoomFor : List ℕ → Dims → Word → Type 0
RoomFor w d word = store_words d.keys d.most (length (page_at w d).log + length word) ≤ length w

-- A table that is shown is refuted by a word of its keys, and there is room for the word.
pub record Refutable (w : List ℕ) (d : Dims) (word : Word) (a : ℕ) : Type 0 where
  pub shows_word : ShowsWord w d word
  pub wrong : shows d.keys (view_model (model_of w d)).hypothesis word ≡ a → ⊥
  pub room : RoomFor w d word
