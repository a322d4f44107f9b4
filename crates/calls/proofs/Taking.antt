-- What comes of an answer.
use Rattle.std.proofs.Common.{◌≡◌, ℕ, List, refl, ap, ◌∙◌, arith}
use Rattle.areas.specs.declared.shape.Shape.{Shape}
use Rattle.areas.specs.Shapes.{dims}
use Rattle.model.specs.Learners.{Bisection, asks_cell, asks_middle, waits_in}
use Rattle.model.specs.Models.{model_filling, heard_cell, model_hear_middle}
use Rattle.model.proofs.Paging.{model_hears_cell, model_hears_middle}
use Rattle.promises.specs.declared.Given.TheVariants.{Taken, NotAsked, Unstored}
use Rattle.promises.specs.Promises.{ToldSays}
use Rattle.store.specs.Decoding.{model_of}
use Rattle.store.specs.Reading.{Stored, state_of}
use Rattle.moves.specs.declared.numbers.Edge.{Edge}
use Rattle.moves.specs.declared.phase.Search.{Search}
use Rattle.moves.specs.declared.phase.Phase.{Phase}
use Rattle.moves.specs.declared.phase.Phase.TheVariants.{Filling, AsksCell, ShowsTable, Bisecting, AsksMiddle, Larger, Broken}
use Rattle.moves.specs.Holding.{Holds}
use Rattle.moves.specs.Making.{MakesBy}
use Rattle.moves.specs.Opening.{Opened}
use Rattle.moves.specs.Phases.{phase_value}
use Rattle.moves.proofs.Holding.{turned_by, turned_state}
use Rattle.calls.proofs.Opened.{by_state, by_shape}

-- Only while a word is asked about an answer is waited for.
not_asking : (p : Phase) → ((u : Edge) (e : ℕ) → p ≡ AsksCell u e → ⊥) → ((s : Search) → p ≡ AsksMiddle s → ⊥) → waits_in (phase_value p) ≡ 1 → ⊥
not_asking Filling n m e = omega arith
not_asking (AsksCell u s) n m e = n u s refl
not_asking ShowsTable n m e = omega arith
not_asking (Bisecting s) n m e = omega arith
not_asking (AsksMiddle s) n m e = m s refl
not_asking (Larger u) n m e = omega arith
not_asking Broken n m e = omega arith

module _ (w : List ℕ) (a : ℕ) where
  pub told_unstored : (Stored w → ⊥) → ToldSays state_of (state_of w) a w w Unstored
  told_unstored n = by_state w (λ z. ToldSays state_of z a w w Unstored) refl (λ s. absurd (n s))

  module _ (shape : Shape) (o : Opened w shape) where
    pub told_unasked : (p : Phase) → phase_value p ≡ (model_of w (dims shape)).phase → ((u : Edge) (e : ℕ) → p ≡ AsksCell u e → ⊥) → ((s : Search) → p ≡ AsksMiddle s → ⊥) → ToldSays state_of (state_of w) a w w NotAsked
    told_unasked p read n m = by_shape w shape (λ z. ToldSays state_of z a w w NotAsked) o tt (λ s h. (λ e. not_asking p n m (ap waits_in read ∙ e), refl))

    pub told_cell : (w' : List ℕ) (u e : ℕ) → (model_of w (dims shape)).phase ≡ asks_cell u e → (Holds w (dims shape) → (model_of w (dims shape)).phase ≡ asks_cell u e → MakesBy w w' (dims shape) (λ m. model_filling m (heard_cell m.keys m.most m.page u e a))) → ToldSays state_of (state_of w) a w w' Taken
    told_cell w' u e f made =
        by_shape w shape (λ z. ToldSays state_of z a w w' Taken) o tt
        (λ s h. (ap waits_in f, turned_state s o.shaped (turned_by (made h f) (model_hears_cell (model_of w (dims shape)) u e a h.valid f))))

    pub told_middle : (w' : List ℕ) (l : Bisection) → (model_of w (dims shape)).phase ≡ asks_middle l → (Holds w (dims shape) → (model_of w (dims shape)).phase ≡ asks_middle l → MakesBy w w' (dims shape) (λ m. model_hear_middle m l a)) → ToldSays state_of (state_of w) a w w' Taken
    told_middle w' l f made =
        by_shape w shape (λ z. ToldSays state_of z a w w' Taken) o tt
        (λ s h. (ap waits_in f, turned_state s o.shaped (turned_by (made h f) (model_hears_middle (model_of w (dims shape)) l a h.valid f))))
