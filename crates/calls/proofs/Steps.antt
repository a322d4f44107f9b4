-- What a step says, by what is settled and what is wanted.
use Rattle.std.proofs.Common.{◌≡◌, ℕ, ◌<◌, ◌≤◌, ◌⊎◌, List, [], length, sym, refl, ap, subst, inl, inr, ⊎_elim, arith}
use mathlib.Core.Option.{some, none}
use Rattle.areas.specs.declared.shape.Shape.{Shape}
use Rattle.areas.specs.Layout.{Dims}
use Rattle.areas.specs.Shapes.{dims}
use Rattle.model.specs.States.{State, asks, out_words}
use Rattle.model.specs.Observations.{Observations}
use Rattle.model.specs.Learners.{Phase, filling, asks_cell, shows_table, bisecting, asks_middle, larger, broken, waits_in, hypothesis_in}
use Rattle.model.specs.Models.{Model, ValidModel, learner_of, view_model}
use Rattle.promises.specs.declared.Wanted.{Wanted}
use Rattle.promises.specs.declared.Wanted.TheVariants.{Ask, Larger, Broken, NoStore, Short}
use Rattle.promises.specs.Promises.{NextSays}
use Rattle.promises.proofs.Kept.{ask_kept, table_kept, table_again, larger_kept, broken_kept}
use Rattle.store.specs.Decoding.{dims_of, model_of}
use Rattle.store.specs.Reading.{Stored, state_of}
use Rattle.moves.specs.Holding.{Holds, Settled, asking, shown, too_many, Settles}
use Rattle.moves.specs.Observed.{page_at}
use Rattle.moves.specs.Opening.{Opened}
use Rattle.moves.proofs.Holding.{as_model, turned_holds, turned_none, turned_state}
use Rattle.rounds.specs.Readiness.{Unsettled}
use Rattle.writing.specs.Wants.{Wants}
use Rattle.calls.proofs.Opened.{by_state, by_shape}

-- Whether a learner can go on by itself.
unsettled_or : (p : Phase) → Unsettled p ⊎ (Unsettled p → ⊥)
unsettled_or filling = inl tt
unsettled_or (asks_cell u e) = inr (λ h. h)
unsettled_or shows_table = inr (λ h. h)
unsettled_or (bisecting l) = inl tt
unsettled_or (asks_middle l) = inr (λ h. h)
unsettled_or (larger u) = inr (λ h. h)
unsettled_or broken = inr (λ h. h)

-- Nothing is waited for while a learner can go on by itself.
quiet : (p : Phase) → Unsettled p → waits_in p ≡ 0
quiet filling u = refl
quiet (asks_cell v e) u = absurd u
quiet shows_table u = absurd u
quiet (bisecting l) u = refl
quiet (asks_middle l) u = absurd u
quiet (larger v) u = absurd u
quiet broken u = absurd u

-- While a word is asked about no table is shown.
no_table : (k n : ℕ) (b : Observations) (s : List ℕ) (p : Phase) → waits_in p ≡ 1 → hypothesis_in k n b s p ≡ []
no_table k n b s filling e = absurd (omega arith)
no_table k n b s (asks_cell u v) e = refl
no_table k n b s shows_table e = absurd (omega arith)
no_table k n b s (bisecting l) e = absurd (omega arith)
no_table k n b s (asks_middle l) e = refl
no_table k n b s (larger u) e = absurd (omega arith)
no_table k n b s broken e = absurd (omega arith)

-- What is left where nothing is waited for, the box is not larger and nothing can go on.
left_broken : (p : Phase) → waits_in p ≡ 0 → ((u : ℕ) → p ≡ larger u → ⊥) → (Unsettled p → ⊥) → p ≡ broken
left_broken filling e n u = absurd (u tt)
left_broken (asks_cell v f) e n u = absurd (omega arith)
left_broken shows_table e n u = absurd (omega arith)
left_broken (bisecting l) e n u = absurd (u tt)
left_broken (asks_middle l) e n u = absurd (omega arith)
left_broken (larger v) e n u = absurd (n v refl)
left_broken broken e n u = refl

-- What a learner says that has settled something.
module _ (m m₁ : Model) (w w₁ o o' : List ℕ) (valid : ValidModel m₁) (calm : waits_in m.phase ≡ 0) (state : state_of w₁ ≡ some (view_model m₁)) where
  settled_says : Settled (view_model m) m₁ → (r : Wanted) → Wants m₁ o o' r → NextSays state_of (some (view_model m)) w w₁ o o' r
  settled_says (asking waits is) (Ask l) h =
      subst (λ (z : ℕ). NextSays state_of (some (view_model m)) w w₁ o o' (Ask z)) (sym h.1)
      (ask_kept state_of (learner_of m) (learner_of m₁) w w₁ o o' (record { valid = valid.valid; waits = waits; is = is; calm = λ e. omega (arith, calm, e); same = λ e. absurd (omega (arith, calm, e)) }) state h.2)
  settled_says (asking waits is) (Wanted.Table r) h = absurd (omega (arith, waits, h.0))
  settled_says (asking waits is) Larger h = absurd (omega (arith, waits, ap waits_in h.0.1))
  settled_says (asking waits is) Broken h = absurd (omega (arith, waits, h.0))
  settled_says (asking waits is) NoStore h = absurd h
  settled_says (asking waits is) Short h = absurd h
  settled_says (shown waits is more) (Ask l) h = absurd (omega (arith, waits, h.0))
  settled_says (shown waits is more) (Wanted.Table r) h =
      subst (λ (z : ℕ). NextSays state_of (some (view_model m)) w w₁ o o' (Wanted.Table z)) (sym h.1)
      (table_kept state_of (learner_of m) (learner_of m₁) w w₁ o o' (record { valid = valid.valid; waits = waits; is = is; more = more }) state h.2)
  settled_says (shown waits is more) Larger h = absurd (omega (arith, waits, ap waits_in h.0.1))
  settled_says (shown waits is more) Broken h = absurd (omega (arith, waits, h.0))
  settled_says (shown waits is more) NoStore h = absurd h
  settled_says (shown waits is more) Short h = absurd h
  settled_says (too_many u f is) (Ask l) h = absurd (omega (arith, ap waits_in f, h.0))
  settled_says (too_many u f is) (Wanted.Table r) h = absurd (omega (arith, ap waits_in f, h.0))
  settled_says (too_many u f is) Larger h =
      subst (λ (z : List ℕ). NextSays state_of (some (view_model m)) w w₁ o z Larger) (sym h.1) (larger_kept state_of (learner_of m) (learner_of m₁) u w w₁ o valid.valid f is state)
  settled_says (too_many u f is) Broken h = absurd (h.1 u f)
  settled_says (too_many u f is) NoStore h = absurd h
  settled_says (too_many u f is) Short h = absurd h

-- What a learner says that has something settled already.
module _ (m : Model) (w o o' : List ℕ) (valid : ValidModel m) (still : Unsettled m.phase → ⊥) (state : state_of w ≡ some (view_model m)) where
  still_says : (r : Wanted) → Wants m o o' r → NextSays state_of (some (view_model m)) w w o o' r
  still_says (Ask l) h =
      let c = learner_of m in
      let empty : hypothesis_in m.keys m.most c.observed m.successors m.phase ≡ [] = no_table m.keys m.most c.observed m.successors m.phase h.0 in
      let is : view_model m ≡ asks (view_model m) (view_model m).asked = λ i. record { keys = m.keys; most = m.most; told = (view_model m).told; waits = h.0 i; asked = (view_model m).asked; hypothesis = empty i; rows = m.last; refuted = (view_model m).refuted } in
      subst (λ (z : ℕ). NextSays state_of (some (view_model m)) w w o o' (Ask z)) (sym h.1)
      (ask_kept state_of c c w w o o' (record { valid = valid.valid; waits = h.0; is = is; calm = λ e. omega (arith, h.0, e); same = λ e. refl }) state h.2)
  still_says (Wanted.Table r) h =
      subst (λ (z : ℕ). NextSays state_of (some (view_model m)) w w o o' (Wanted.Table z)) (sym h.1) (table_again state_of (learner_of m) w o o' valid.valid h.0 state h.2)
  still_says Larger h =
      subst (λ (z : List ℕ). NextSays state_of (some (view_model m)) w w o z Larger) (sym h.1) (larger_kept state_of (learner_of m) (learner_of m) h.0.0 w w o valid.valid h.0.1 refl state)
  still_says Broken h =
      subst (λ (z : List ℕ). NextSays state_of (some (view_model m)) w w o z Broken) (sym h.2) (broken_kept state_of (learner_of m) w o valid.valid (left_broken m.phase h.0 h.1 still) state)
  still_says NoStore h = absurd h
  still_says Short h = absurd h

-- The letters of refuting words are as many as before.
settled_letters : (before : State) (m : Model) → Settled before m → (view_model m).refuted ≡ before.refuted
settled_letters before m (asking waits is) = ap (λ (z : State). z.refuted) is
settled_letters before m (shown waits is more) = ap (λ (z : State). z.refuted) is
settled_letters before m (too_many u f is) = ap (λ (z : State). z.refuted) is

-- What a step says of a store.
pub step_says : (w w₁ o o' : List ℕ) (d : Dims) (r : Wanted) → Stored w → d ≡ dims_of w → Holds w d
    → (Holds w d → Unsettled (model_of w d).phase → Settles w w₁ d) → ((Unsettled (model_of w d).phase → ⊥) → w₁ ≡ w)
    → (Holds w₁ d → out_words d.keys d.most (length (page_at w₁ d).log) ≤ length o → Wants (model_of w₁ d) o o' r)
    → out_words d.keys d.most (length (page_at w d).log) ≤ length o → NextSays state_of (some (view_model (model_of w d))) w w₁ o o' r
step_says w w₁ o o' d r stored shaped h moved kept wants room =
    ⊎_elim
    (λ (u : Unsettled (model_of w d).phase).
    let s = moved h u in
    let h₁ = turned_holds h s.turned in
    let letters = settled_letters (view_model (model_of w d)) (model_of w₁ d) s.settled in
    settled_says (model_of w d) (model_of w₁ d) w w₁ o o' h₁.valid (quiet (model_of w d).phase u) (turned_state stored shaped s.turned) s.settled r (wants h₁ (omega (arith, room, letters))))
    (λ (n : Unsettled (model_of w d).phase → ⊥).
    let same = kept n in
    subst (λ (z : List ℕ). (Holds z d → out_words d.keys d.most (length (page_at z d).log) ≤ length o → Wants (model_of z d) o o' r) → NextSays state_of (some (view_model (model_of w d))) w z o o' r) (sym same)
    (λ wants₀. still_says (model_of w d) w o o' h.valid n (turned_state stored shaped (turned_none h)) r (wants₀ h room)) wants)
    (unsettled_or (model_of w d).phase)

-- Of memory that is no store only 'no store' says something.
no_store_says : (w w₁ o o' : List ℕ) (r : Wanted) → (r ≡ NoStore → ⊥) → NextSays state_of none w w₁ o o' r
no_store_says w w₁ o o' (Ask l) n = tt
no_store_says w w₁ o o' (Wanted.Table r) n = tt
no_store_says w w₁ o o' Larger n = tt
no_store_says w w₁ o o' Broken n = tt
no_store_says w w₁ o o' NoStore n = absurd (n refl)
no_store_says w w₁ o o' Short n = tt

pub step_unstored : (w o : List ℕ) → (Stored w → ⊥) → NextSays state_of (state_of w) w w o o NoStore
step_unstored w o n = by_state w (λ z. NextSays state_of z w w o o NoStore) (refl, refl) (λ s. absurd (n s))

module _ (w o : List ℕ) (shape : Shape) (opened : Opened w shape) where
  pub step_short : (Holds w (dims shape) → length o < out_words (dims shape).keys (dims shape).most (length (page_at w (dims shape)).log)) → NextSays state_of (state_of w) w w o o Short
  step_short few =
      by_shape w shape (λ z. NextSays state_of z w w o o Short) opened tt
      (λ s h. (as_model w (dims shape) (λ k n. length o < out_words k n (length (page_at w (dims shape)).log)) (few h), refl, refl))

  pub step_done : (w₁ o' : List ℕ) (r : Wanted) → (r ≡ NoStore → ⊥) → (Holds w (dims shape) → Unsettled (model_of w (dims shape)).phase → Settles w w₁ (dims shape)) → ((Unsettled (model_of w (dims shape)).phase → ⊥) → w₁ ≡ w)
      → (Holds w₁ (dims shape) → out_words (dims shape).keys (dims shape).most (length (page_at w₁ (dims shape)).log) ≤ length o → Wants (model_of w₁ (dims shape)) o o' r)
      → (Holds w (dims shape) → out_words (dims shape).keys (dims shape).most (length (page_at w (dims shape)).log) ≤ length o) → NextSays state_of (state_of w) w w₁ o o' r
  step_done w₁ o' r known moved kept wants room =
      by_shape w shape (λ z. NextSays state_of z w w₁ o o' r) opened (no_store_says w w₁ o o' r known)
      (λ s h. step_says w w₁ o o' (dims shape) r s opened.shaped h moved kept wants (room h))
