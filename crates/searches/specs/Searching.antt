-- A search by halves, step by step.
use Rattle.std.specs.Prelude.{◌≡◌, ℕ, suc, ◌+◌, ◌<◌, ◌≤◌, List, Option, Result, Ok, Err}
use Rattle.areas.specs.Layout.{Dims}
use Rattle.model.specs.Observations.{rows, count, mixed_at}
use Rattle.model.specs.Learners.{middle, bisecting, AsksAlong}
use Rattle.model.specs.Moves.{narrowed}
use Rattle.model.specs.Models.{ValidModel, model_in, model_filling, split_page}
use Rattle.store.specs.Decoding.{model_of}
use Rattle.moves.specs.declared.phase.Search.{Search}
use Rattle.moves.specs.Holding.{Holds}
use Rattle.moves.specs.Making.{MakesBy}
use Rattle.moves.specs.Observed.{observed_at}
use Rattle.moves.specs.Phases.{search_value}
use Rattle.lookup.specs.Named.{AnswerTo}

-- The answer to the middle's word and the left one are there, and the ends are in order.
pub record Halving (w : List ℕ) (d : Dims) (s : Search) (told : ℕ) : Type 0 where
  pub told_in : told < count (observed_at w d)
  pub left_in : s.left < count (observed_at w d)
  pub order : s.low ≤ s.high

-- One half of a search.
abbrev pub Halves : List ℕ → Dims → Search → ℕ → Search → Type 0
Halves w d s told r = Halving w d s told → search_value r ≡ narrowed (observed_at w d) (search_value s) told

-- A memory holds a valid learner, which could be in this search.
pub record Searching (w : List ℕ) (d : Dims) (s : Search) : Type 0 where
  pub held : Holds w d
  pub valid : ValidModel (model_in (model_of w d) (bisecting (search_value s)))

-- The answer to the word in the middle of a search, if places are left; none where it was never told of.
abbrev pub Between : List ℕ → Dims → Search → Option ℕ → Type 0
Between w d s r =
    Searching w d s → s.low + 1 < s.high
    → AnswerTo (observed_at w d) (mixed_at d.keys (observed_at w d) (model_of w d).successors s.along (middle (search_value s))) r

-- A search whose ends are next to each other.
pub record Ended (w : List ℕ) (d : Dims) (s : Search) : Type 0 where
  pub valid : ValidModel (model_in (model_of w d) (bisecting (search_value s)))
  pub near : s.high ≡ suc s.low

-- The end of a search where there is room for a row more.
abbrev pub Splits : List ℕ → List ℕ → Dims → Search → Type 0
Splits w w' d s =
    Searching w d s → rows (observed_at w d) < d.most
    → MakesBy w w' d (λ m. model_filling m (split_page m.keys m.most m.page m.successors (search_value s)))

-- A search whose middle is to be asked about.
pub record Halted (w : List ℕ) (d : Dims) (s : Search) : Type 0 where
  pub valid : ValidModel (model_in (model_of w d) (bisecting (search_value s)))
  pub asks : AsksAlong d.keys (observed_at w d) (model_of w d).successors (search_value s)

-- What a search leads to with the answers that were told.
abbrev pub NarrowsTo : List ℕ → Dims → Result Search Search → Type 0
NarrowsTo w d (Ok s) = Ended w d s
NarrowsTo w d (Err s) = Halted w d s
