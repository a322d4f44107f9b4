-- Places along the rest of an answer.
use Rattle.std.specs.Prelude.{◌≡◌, ℕ, ◌<◌, ◌≤◌, List, length}
use Rattle.areas.specs.declared.records.Record.{Record}
use Rattle.areas.specs.declared.spans.Span as stored
use Rattle.areas.specs.Layout.{Dims}
use Rattle.model.specs.Observations.{count, answer_at, mixed_at, Closed}
use Rattle.model.specs.Pages.{span_behind, mixed_entry}
use Rattle.store.specs.Decoding.{entry_of, page_of, model_of}
use Rattle.lookup.specs.Named.{Named, named_word}
use Rattle.moves.specs.Additions.{span_value}
use Rattle.moves.specs.Holding.{Holds}
use Rattle.moves.specs.Observed.{observed_at, page_at}

-- Some letters of the rest of an answer come before a place, and all before it are there.
pub record PlaceIn (w : List ℕ) (d : Dims) (along place : ℕ) : Type 0 where
  pub held : Holds w d
  pub answer_in : along < count (observed_at w d)
  pub some : 0 < place
  pub within : place ≤ length (answer_at (observed_at w d) along).rest

-- The part of the log behind a place in the rest of an answer.
abbrev pub Behind : List ℕ → Dims → ℕ → ℕ → stored.Span → Type 0
Behind w d along place r = PlaceIn w d along place → span_value r ≡ span_behind (page_at w d) along place

-- The record of a word along an answer, with what was shown after it.
pub record MixedIn (w : List ℕ) (d : Dims) (along place shown : ℕ) (r : Record) : Type 0 where
  pub entry : entry_of r ≡ mixed_entry d.keys (page_at w d) (model_of w d).successors along place shown
  pub named : Named (page_of w d) r
  pub word : named_word (page_of w d) r ≡ mixed_at d.keys (observed_at w d) (model_of w d).successors along place

-- The word along an answer at a place, where every edge leads to a row.
abbrev pub Mixed : List ℕ → Dims → ℕ → ℕ → ℕ → Record → Type 0
Mixed w d along place shown r = PlaceIn w d along place → Closed d.keys d.most (observed_at w d) (model_of w d).successors → MixedIn w d along place shown r
