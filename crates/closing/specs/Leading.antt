-- Edges that were led to the rows that they are like.
use Rattle.std.specs.Prelude.{◌≡◌, ℕ, ◌<◌, List, Some, None, Option}
use Rattle.areas.specs.Layout.{Dims}
use Rattle.model.specs.Observations.{edges_used, Closed, Full}
use Rattle.model.specs.Learners.{filling}
use Rattle.model.specs.Moves.{OtherThanRows}
use Rattle.store.specs.Decoding.{model_of}
use Rattle.moves.specs.Changes.{leading_by}
use Rattle.moves.specs.Holding.{Holds}
use Rattle.moves.specs.Making.{Makes}
use Rattle.moves.specs.Observed.{observed_at}
use Rattle.moves.specs.declared.numbers.Edge.{Edge}

-- Only successors were written.
abbrev pub Led : List ℕ → List ℕ → Dims → Type 0
Led w w' d = Makes w w' d (leading_by (model_of w d) (model_of w' d).successors)

-- A memory holds a learner that fills its table, and every cell in use is known.
pub record FullTable (w : List ℕ) (d : Dims) : Type 0 where
  pub holds : Holds w d
  pub phase : (model_of w d).phase ≡ filling
  pub full : Full d.keys d.most (observed_at w d)

-- Each edge leads to a row that it is like.
pub record AllLed (w w' : List ℕ) (d : Dims) : Type 0 where
  pub led : Led w w' d
  pub closed : Closed d.keys d.most (observed_at w d) (model_of w' d).successors

-- An edge in use differs from all rows.
pub record Stray (w w' : List ℕ) (d : Dims) (u : ℕ) : Type 0 where
  pub led : Led w w' d
  pub edge_in : u < edges_used d.keys (observed_at w d)
  pub other : OtherThanRows d.most (observed_at w d) u

-- The first edge that differs from all rows; none where each leads to a row that it is like.
abbrev pub EdgesLed : List ℕ → List ℕ → Dims → Option Edge → Type 0
EdgesLed w w' d None = AllLed w w' d
EdgesLed w w' d (Some u) = Stray w w' d u.0

-- A memory holds a learner that fills its table, and an edge in use differs from all rows.
pub record Strays (w : List ℕ) (d : Dims) (u : ℕ) : Type 0 where
  pub holds : Holds w d
  pub phase : (model_of w d).phase ≡ filling
  pub edge_in : u < edges_used d.keys (observed_at w d)
  pub other : OtherThanRows d.most (observed_at w d) u
