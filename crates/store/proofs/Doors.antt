-- From memory to the state that it holds, and back.
use Rattle.std.proofs.Common.{◌≡◌, ℕ, ◌≤◌, List, length, sym, refl, ap, ◌∙◌, subst, arith}
use mathlib.Core.Option.{some}
use Rattle.areas.specs.declared.area.Area.TheVariants.{Header, Successors, Letters}
use Rattle.areas.specs.Words.{wide}
use Rattle.areas.specs.Layout.{Dims, sized, size_of, area_of, Limits}
use Rattle.model.specs.States.{State, Stands, fresh}
use Rattle.model.specs.Deciding.{given}
use Rattle.model.specs.Models.{Model, ValidModel, view_model, model_begun}
use Rattle.model.proofs.Paging.{model_stands, model_begins}
use Rattle.promises.specs.Promises.{Lawful}
use Rattle.store.specs.Decoding.{letters_word, dims_of, model_of}
use Rattle.store.specs.Begun.{LaidOut}
use Rattle.store.specs.Reading.{Stored, MovesTo, dec_stored, state_of}

given_yes : {P A : Type 0} (d : Dec P) (x : A) → P → given d x ≡ some x
given_yes (yes p) x h = refl
given_yes (no np) x h = absurd (np h)

given_some : {P A : Type 0} (d : Dec P) (x y : A) → given d x ≡ some y → P × (x ≡ y)
given_some (yes p) x y e = (p, cc)
given_some (no np) x y e = let z : ◌≡◌ {A = ℕ} 0 1 = cc in absurd (omega arith)

-- A store holds the state of its model.
pub stored_state : (w : List ℕ) → Stored w → state_of w ≡ some (view_model (model_of w (dims_of w)))
unfolding state_of
stored_state w s = given_yes (dec_stored w) (view_model (model_of w (dims_of w))) s

-- What holds a state is a store.
pub state_stored : (w : List ℕ) (st : State) → state_of w ≡ some st → Stored w × (view_model (model_of w (dims_of w)) ≡ st)
unfolding state_of
state_stored w st e = given_some (dec_stored w) (view_model (model_of w (dims_of w))) st e

pub stores_stand : Lawful state_of
stores_stand w st e = let s = state_stored w st e in subst Stands s.1 (model_stands (model_of w (dims_of w)) s.0.valid)

-- A memory that keeps its shape is laid out as before.
pub same_dims : (w w' : List ℕ) (d : Dims) (m : Model) → MovesTo w w' d m → dims_of w' ≡ dims_of w
same_dims w w' d m h = λ i. sized (h.keys i) (h.most i) (h.long i)

-- After a move from a store to a valid model the memory is a store that holds it.
pub moved_state : (w w' : List ℕ) (d : Dims) (m : Model) → Stored w → d ≡ dims_of w → MovesTo w w' d m → wide (area_of w' d Header) letters_word ≤ size_of d Letters → ValidModel m → state_of w' ≡ some (view_model m)
moved_state w w' d m s e h fits valid =
    let same : dims_of w' ≡ d = same_dims w w' d m h ∙ sym e in
    let is : model_of w' (dims_of w') ≡ m = ap (model_of w') same ∙ h.model in
    stored_state w' (record {
      marked = h.mark ∙ s.marked;
      limits = subst Limits (e ∙ sym (same_dims w w' d m h)) (subst Limits (sym e) s.limits);
      log_fits = subst (λ z. wide (area_of w' z Header) letters_word ≤ size_of z Letters) (sym same) fits;
      valid = subst ValidModel (sym is) valid;
    }) ∙ ap (λ z. some (view_model z)) is

-- A memory that was laid out anew is a store with nothing told.
pub laid_out_state : (w w' : List ℕ) (d : Dims) → Limits d → length w ≡ d.length → LaidOut w w' d → state_of w' ≡ some (fresh d.keys d.most)
laid_out_state w w' d limits long h =
    let same : dims_of w' ≡ d = λ i. record { keys = h.keys i; most = h.most i; length = (h.long ∙ long) i } in
    let is : model_of w' (dims_of w') ≡ model_begun d.keys d.most (area_of w' d Successors) = ap (model_of w') same ∙ h.model in
    let begun = model_begins d.keys d.most (area_of w' d Successors) limits.some_keys limits.few_keys limits.some_states limits.few_states in
    let none : wide (area_of w' d Header) letters_word ≤ size_of d Letters = omega (arith, h.no_letters) in
    stored_state w' (record {
      marked = h.mark;
      limits = subst Limits (sym same) limits;
      log_fits = subst (λ z. wide (area_of w' z Header) letters_word ≤ size_of z Letters) (sym same) none;
      valid = subst ValidModel (sym is) begun.valid;
    }) ∙ (ap (λ z. some (view_model z)) is ∙ ap (λ z. some z) begun.is)
