-- Memory that holds a valid learner, and what a turn makes of it.
use Rattle.std.specs.Prelude.{◌≡◌, ℕ, suc, ◌<◌, Bool, true, false, List, length}
use Rattle.areas.specs.Layout.{Dims}
use Rattle.model.specs.States.{State, asks, showing}
use Rattle.model.specs.Observations.{rows}
use Rattle.model.specs.Learners.{filling, larger, waits_in}
use Rattle.model.specs.Models.{Model, ValidModel, view_model}
use Rattle.store.specs.Decoding.{model_of}
use Rattle.moves.specs.Making.{LogFits, Makes}
use Rattle.moves.specs.Observed.{observed_at}

-- A memory is as long as it is laid out for, its log fits, and its model is valid.
pub record Holds (w : List ℕ) (d : Dims) : Type 0 where
  pub long : length w ≡ d.length
  pub fits : LogFits w d
  pub valid : ValidModel (model_of w d)

-- After a turn the memory holds a valid model, which is for others as the state says.
pub record Turned (w w' : List ℕ) (d : Dims) (st : State) : Type 0 where
  pub makes : Makes w w' d (model_of w' d)
  pub valid : ValidModel (model_of w' d)
  pub is : view_model (model_of w' d) ≡ st

-- A learner that was in one state asks about a word now, shows a table with more rows than the last, or says that the box is larger.
pub data Settled (before : State) (m : Model) : Type 0 where
  asking : waits_in m.phase ≡ 1 → view_model m ≡ asks before (view_model m).asked → Settled before m
  shown : waits_in m.phase ≡ 2 → view_model m ≡ showing before (view_model m).rows (view_model m).hypothesis → before.rows < (view_model m).rows → Settled before m
  too_many : (u : ℕ) → m.phase ≡ larger u → view_model m ≡ before → Settled before m

-- A turn that leaves one row more, and the table to be filled.
pub record Grown (w w' : List ℕ) (d : Dims) : Type 0 where
  pub turned : Turned w w' d (view_model (model_of w d))
  pub phase : (model_of w' d).phase ≡ filling
  pub more : rows (observed_at w' d) ≡ suc (rows (observed_at w d))

-- A turn that settles what comes next.
pub record Settles (w w' : List ℕ) (d : Dims) : Type 0 where
  pub turned : Turned w w' d (view_model (model_of w' d))
  pub settled : Settled (view_model (model_of w d)) (model_of w' d)

-- A turn leaves one row more, or settles what comes next.
abbrev pub Rounded : List ℕ → List ℕ → Dims → Bool → Type 0
Rounded w w' d true = Grown w w' d
Rounded w w' d false = Settles w w' d
