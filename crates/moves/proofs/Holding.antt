-- Turns from one memory that holds a valid learner to another.
use Rattle.std.proofs.Common.{◌≡◌, ℕ, suc, ◌<◌, Bool, true, false, List, sym, refl, ap, ◌∙◌, subst}
use mathlib.Core.Option.{some}
use Rattle.areas.specs.Layout.{Dims}
use Rattle.machines.specs.Tables.{Table}
use Rattle.model.specs.States.{State, asks, showing}
use Rattle.model.specs.Observations.{rows}
use Rattle.model.specs.Learners.{filling}
use Rattle.model.specs.Pages.{Page}
use Rattle.model.specs.Models.{Model, ValidModel, ModelAs, view_model, model_filling}
use Rattle.store.specs.Decoding.{dims_of, model_of}
use Rattle.store.specs.Reading.{Stored, state_of}
use Rattle.moves.specs.Making.{LogFits, Makes}
use Rattle.moves.specs.Changes.{on_page}
use Rattle.moves.specs.Holding.{Holds, Turned, Settled, asking, shown, Grown, Settles, Rounded}
use Rattle.moves.specs.Observed.{observed_at}
use Rattle.moves.proofs.Standing.{made_state, makes_then, store_long, store_valid}

-- The model is for as many keys and states as the memory.
pub as_dims : (w : List ℕ) (d : Dims) (P : ℕ → ℕ → Type 0) → P (model_of w d).keys (model_of w d).most → P d.keys d.most
unfolding model_of
as_dims w d P h = h

-- The memory is for as many keys and states as its model.
pub as_model : (w : List ℕ) (d : Dims) (P : ℕ → ℕ → Type 0) → P d.keys d.most → P (model_of w d).keys (model_of w d).most
unfolding model_of
as_model w d P h = h

-- A store holds a valid learner.
pub store_holds : (w : List ℕ) (d : Dims) → Stored w → d ≡ dims_of w → Holds w d
store_holds w d s e = record { long = store_long w d e; fits = subst (LogFits w) (sym e) s.log_fits; valid = store_valid w d s e }

-- A write that makes a valid model is a turn.
pub turned_by : {w w' : List ℕ} {d : Dims} {m : Model} {st : State} → Makes w w' d m → ModelAs m st → Turned w w' d st
turned_by {w = w} {w' = w'} {d = d} h a =
    let is = h.moves.model in
    record {
      makes = subst (Makes w w' d) (sym is) h;
      valid = subst ValidModel (sym is) a.valid;
      is = ap view_model is ∙ a.is;
    }

-- After a turn the memory holds a valid learner.
pub turned_holds : {w w' : List ℕ} {d : Dims} {st : State} → Holds w d → Turned w w' d st → Holds w' d
turned_holds h t = record { long = t.makes.moves.long ∙ h.long; fits = t.makes.fits h.fits; valid = t.valid }

-- One turn after another.
pub turned_then : {w w₁ w' : List ℕ} {d : Dims} {st st' : State} → Turned w w₁ d st → Turned w₁ w' d st' → Turned w w' d st'
turned_then s t = record { makes = makes_then s.makes t.makes; valid = t.valid; is = t.is }

-- A turn that leaves the memory as it was.
pub turned_none : {w : List ℕ} {d : Dims} → Holds w d → Turned w w d (view_model (model_of w d))
turned_none h = record {
  makes = record { moves = record { model = refl; mark = refl; keys = refl; most = refl; long = refl }; fits = λ f. f };
  valid = h.valid;
  is = refl;
}

-- After a turn a store holds the state that the turn leads to.
pub turned_state : {w w' : List ℕ} {d : Dims} {st : State} → Stored w → d ≡ dims_of w → Turned w w' d st → state_of w' ≡ some st
turned_state {w = w} {w' = w'} {d = d} s e t = made_state w w' d (model_of w' d) s e t.makes t.valid ∙ ap some t.is

-- A turn leads to the state that the memory then holds.
pub turned_at : {w w' : List ℕ} {d : Dims} {st : State} → Turned w w' d st → Turned w w' d (view_model (model_of w' d))
turned_at t = record { makes = t.makes; valid = t.valid; is = refl }

-- A learner settled after a turn that others do not see is settled.
pub settles_after : {w w₁ w' : List ℕ} {d : Dims} → Turned w w₁ d (view_model (model_of w d)) → Settles w₁ w' d → Settles w w' d
settles_after {w = w} {w₁ = w₁} {w' = w'} {d = d} t s = record { turned = turned_then t s.turned; settled = subst (λ (st : State). Settled st (model_of w' d)) t.is s.settled }

-- So is one that has one row more.
pub grown_after : {w w₁ w' : List ℕ} {d : Dims} → Turned w w₁ d (view_model (model_of w d)) → rows (observed_at w₁ d) ≡ rows (observed_at w d) → Grown w₁ w' d → Grown w w' d
grown_after {w = w} {w₁ = w₁} {w' = w'} {d = d} t r g = record { turned = turned_then t (subst (Turned w₁ w' d) t.is g.turned); phase = g.phase; more = g.more ∙ ap suc r }

-- Either way.
pub rounded_after : (w w₁ w' : List ℕ) (d : Dims) (more : Bool) → Turned w w₁ d (view_model (model_of w d)) → rows (observed_at w₁ d) ≡ rows (observed_at w d) → Rounded w₁ w' d more → Rounded w w' d more
rounded_after w w₁ w' d true t r g = grown_after t r g
rounded_after w w₁ w' d false t r s = settles_after t s

-- A turn that asks about a word settles what comes next.
pub settles_asking : {w w' : List ℕ} {d : Dims} (word : List ℕ) → Turned w w' d (asks (view_model (model_of w d)) word) → Settles w w' d
settles_asking {w = w} {d = d} word t =
    record {
      turned = turned_at t;
      settled = asking (ap (λ (z : State). z.waits) t.is) (t.is ∙ ap (asks (view_model (model_of w d))) (sym (ap (λ (z : State). z.asked) t.is)));
    }

-- A model that fills its table, on another page.
pub on_filling : (m : Model) (p : Page) → m.phase ≡ filling → on_page m p ≡ model_filling m p
on_filling m p e = λ i. record { keys = m.keys; most = m.most; page = p; successors = m.successors; bisected = m.bisected; refutes = m.refutes; last = m.last; phase = e i }

-- A turn that shows a table with more rows than the last settles what comes next.
pub settles_shown : {w w' : List ℕ} {d : Dims} (r : ℕ) (t : Table) → Turned w w' d (showing (view_model (model_of w d)) r t) → (view_model (model_of w d)).rows < r → Settles w w' d
settles_shown {w = w} {d = d} r t turned more =
    let is = turned.is in
    let rows_are = ap (λ (z : State). z.rows) is in
    let before = view_model (model_of w d) in
    record {
      turned = turned_at turned;
      settled = shown (ap (λ (z : State). z.waits) is) (is ∙ (λ i. showing before (sym rows_are i) (sym (ap (λ (z : State). z.hypothesis) is) i))) (subst (λ (z : ℕ). before.rows < z) (sym rows_are) more);
    }
