-- What a memory is read as, by the shape that it says.
use Rattle.std.proofs.Common.{◌≡◌, ℕ, List, refl, subst, arith}
use mathlib.Core.Option.{Option, some, none}
use Rattle.areas.specs.declared.shape.Shape.{Shape}
use Rattle.areas.specs.Layout.{Dims}
use Rattle.areas.specs.Shapes.{dims}
use Rattle.model.specs.States.{State}
use Rattle.model.specs.Learners.{waits_in}
use Rattle.model.specs.Models.{view_model}
use Rattle.store.specs.Decoding.{dims_of, model_of}
use Rattle.store.specs.Reading.{Stored, state_of}
use Rattle.store.proofs.Doors.{state_stored}
use Rattle.moves.specs.declared.phase.Phase.{Phase}
use Rattle.moves.specs.declared.phase.Phase.TheVariants.{Filling, AsksCell, ShowsTable, Bisecting, AsksMiddle, Larger, Broken}
use Rattle.moves.specs.Holding.{Holds}
use Rattle.moves.specs.Opening.{Opened}
use Rattle.moves.specs.Phases.{phase_value}
use Rattle.moves.proofs.Holding.{store_holds}

by_some : {A : Type 0} (o : Option A) (P : Option A → Type 0) → P none → ((x : A) → o ≡ some x → P (some x)) → P o
by_some none P n s = n
by_some (some x) P n s = s x refl

-- What holds of memory that is no store, and of one that is.
pub by_state : (w : List ℕ) (P : Option State → Type 0) → P none → (Stored w → P (some (view_model (model_of w (dims_of w))))) → P (state_of w)
by_state w P n s = by_some (state_of w) P n (λ st e. let is = state_stored w st e in subst (λ (z : State). P (some z)) is.1 (s is.0))

-- The same, where the memory says its shape.
pub by_shape : (w : List ℕ) (shape : Shape) (P : Option State → Type 0) → Opened w shape → P none → (Stored w → Holds w (dims shape) → P (some (view_model (model_of w (dims shape))))) → P (state_of w)
by_shape w shape P o n s =
    by_state w P n (λ stored. subst (λ (d : Dims). P (some (view_model (model_of w d)))) o.shaped (s stored (store_holds w (dims shape) stored o.shaped)))

-- Only while a table is shown it is looked at.
pub not_shown : (p : Phase) → (p ≡ ShowsTable → ⊥) → waits_in (phase_value p) ≡ 2 → ⊥
not_shown Filling n e = omega arith
not_shown (AsksCell u s) n e = omega arith
not_shown ShowsTable n e = n refl
not_shown (Bisecting s) n e = omega arith
not_shown (AsksMiddle s) n e = omega arith
not_shown (Larger u) n e = omega arith
not_shown Broken n e = omega arith
