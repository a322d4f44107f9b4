-- Learners that can go on by themselves, and tables that are ready.
use Rattle.std.specs.Prelude.{◌≡◌, List, ℕ, Bool, false}
use Rattle.areas.specs.Layout.{Dims}
use Rattle.model.specs.Observations.{Closed, Agreed}
use Rattle.model.specs.Learners.{Phase, filling, asks_cell, shows_table, bisecting, asks_middle, larger, broken}
use Rattle.store.specs.Decoding.{model_of}
use Rattle.moves.specs.Observed.{observed_at}
use Rattle.moves.specs.Holding.{Holds, Rounded, Settles}
use Rattle.closing.specs.Leading.{FullTable}

-- A learner that fills its table or searches can go on by itself.
abbrev pub Unsettled : Phase → Type 0
Unsettled filling = Unit {0}
Unsettled (asks_cell u e) = ⊥
Unsettled shows_table = ⊥
Unsettled (bisecting l) = Unit {0}
Unsettled (asks_middle l) = ⊥
Unsettled (larger u) = ⊥
Unsettled broken = ⊥

-- The table is full, and each edge leads to a row that it is like.
pub record ClosedTable (w : List ℕ) (d : Dims) : Type 0 where
  pub table : FullTable w d
  pub closed : Closed d.keys d.most (observed_at w d) (model_of w d).successors

-- It also agrees with every answer.
pub record AgreeingTable (w : List ℕ) (d : Dims) : Type 0 where
  pub table : FullTable w d
  pub closed : Closed d.keys d.most (observed_at w d) (model_of w d).successors
  pub agreed : Agreed d.keys d.most (observed_at w d) (model_of w d).successors

-- A round moves a learner that can go on, and leaves any other as it was.
pub record RoundMade (w w' : List ℕ) (d : Dims) (more : Bool) : Type 0 where
  pub moved : Holds w d → Unsettled (model_of w d).phase → Rounded w w' d more
  pub kept : (Unsettled (model_of w d).phase → ⊥) → (w' ≡ w) × (more ≡ false)

-- Rounds settle a learner that can go on, and leave any other as it was.
pub record SettlingMade (w w' : List ℕ) (d : Dims) : Type 0 where
  pub moved : Holds w d → Unsettled (model_of w d).phase → Settles w w' d
  pub kept : (Unsettled (model_of w d).phase → ⊥) → w' ≡ w
