-- What comes of a refutation.
use Rattle.std.proofs.Common.{◌≡◌, ℕ, ◌+◌, ◌<◌, ◌≤◌, List, length, sym, refl, ap, ◌∙◌, inl, inr}
use Rattle.areas.specs.declared.shape.Shape.{Shape}
use Rattle.areas.specs.Shapes.{dims}
use Rattle.machines.specs.Words.{Word, Keys}
use Rattle.machines.specs.Tables.{shows}
use Rattle.model.specs.States.{store_words, refuted_by}
use Rattle.model.specs.Learners.{shows_table, waits_in}
use Rattle.model.specs.Models.{view_model}
use Rattle.promises.specs.declared.Given.TheVariants.{Taken, NotAsked, NoRefute, Full, Unstored}
use Rattle.promises.specs.Promises.{Refutes, RefutedSays}
use Rattle.store.specs.Decoding.{model_of}
use Rattle.store.specs.Reading.{Stored, state_of}
use Rattle.moves.specs.declared.phase.Phase.{Phase}
use Rattle.moves.specs.declared.phase.Phase.TheVariants.{ShowsTable}
use Rattle.moves.specs.Holding.{Holds, Turned}
use Rattle.moves.specs.Opening.{Opened}
use Rattle.moves.specs.Observed.{page_at}
use Rattle.moves.specs.Phases.{phase_value}
use Rattle.moves.proofs.Holding.{as_model, turned_state}
use Rattle.refuting.specs.Showing.{ShowsWord, RoomFor, Refutable}
use Rattle.calls.proofs.Opened.{by_state, by_shape, not_shown}

module _ (w : List ℕ) (word : Word) (a : ℕ) where
  pub refuted_unstored : (Stored w → ⊥) → RefutedSays state_of (state_of w) (length w) word a w w Unstored
  refuted_unstored n = by_state w (λ o. RefutedSays state_of o (length w) word a w w Unstored) refl (λ s. absurd (n s))

  module _ (shape : Shape) (o : Opened w shape) (p : Phase) (read : phase_value p ≡ (model_of w (dims shape)).phase) where
    pub refuted_unasked : (p ≡ ShowsTable → ⊥) → RefutedSays state_of (state_of w) (length w) word a w w NotAsked
    refuted_unasked n =
        by_shape w shape (λ z. RefutedSays state_of z (length w) word a w w NotAsked) o tt (λ s h. (λ e. not_shown p n (ap waits_in read ∙ e), refl))

    module _ (is : p ≡ ShowsTable) where
      shown : (model_of w (dims shape)).phase ≡ shows_table
      shown = sym read ∙ ap phase_value is

      looked_at : waits_in (model_of w (dims shape)).phase ≡ 2
      looked_at = ap waits_in shown

      pub refuted_keys : (Keys (dims shape).keys word → ⊥) → RefutedSays state_of (state_of w) (length w) word a w w NoRefute
      refuted_keys n =
          by_shape w shape (λ z. RefutedSays state_of z (length w) word a w w NoRefute) o tt
          (λ s h. (looked_at, inl (as_model w (dims shape) (λ k m. Keys k word → ⊥) n), refl))

      module _ (keys : Keys (dims shape).keys word) where
        pub shows_it : Holds w (dims shape) → ShowsWord w (dims shape) word
        shows_it h = record { holds = h; shown = shown; of_keys = keys }

        pub refuted_same : (r : ℕ) → (ShowsWord w (dims shape) word → r ≡ shows (dims shape).keys (view_model (model_of w (dims shape))).hypothesis word) → r ≡ a → RefutedSays state_of (state_of w) (length w) word a w w NoRefute
        refuted_same r says e =
            by_shape w shape (λ z. RefutedSays state_of z (length w) word a w w NoRefute) o tt
            (λ s h. (looked_at, inr (as_model w (dims shape) (λ k m. shows k (view_model (model_of w (dims shape))).hypothesis word ≡ a) (sym (says (shows_it h)) ∙ e)), refl))

        module _ (r : ℕ) (says : ShowsWord w (dims shape) word → r ≡ shows (dims shape).keys (view_model (model_of w (dims shape))).hypothesis word) (other : r ≡ a → ⊥) where
          refutes : Holds w (dims shape) → Refutes (view_model (model_of w (dims shape))) word a
          refutes h = record {
            waits = looked_at;
            keys = as_model w (dims shape) (λ k m. Keys k word) keys;
            wrong = as_model w (dims shape) (λ k m. shows k (view_model (model_of w (dims shape))).hypothesis word ≡ a → ⊥) (λ e. other (says (shows_it h) ∙ e));
          }

          pub refuted_full : (Holds w (dims shape) → length w < store_words (dims shape).keys (dims shape).most (length (page_at w (dims shape)).log + length word)) → RefutedSays state_of (state_of w) (length w) word a w w Full
          refuted_full few =
              by_shape w shape (λ z. RefutedSays state_of z (length w) word a w w Full) o tt
              (λ s h. (refutes h, as_model w (dims shape) (λ k m. length w < store_words k m (length (page_at w (dims shape)).log + length word)) (few h), refl))

          pub refuted_taken : (w' : List ℕ) → (Holds w (dims shape) → RoomFor w (dims shape) word) → (Refutable w (dims shape) word a → Turned w w' (dims shape) (refuted_by (view_model (model_of w (dims shape))) word a)) → RefutedSays state_of (state_of w) (length w) word a w w' Taken
          refuted_taken w' room turned =
              by_shape w shape (λ z. RefutedSays state_of z (length w) word a w w' Taken) o tt
              (λ s h.
              let d = dims shape in
              let refutable : Refutable w d word a = record { shows_word = shows_it h; wrong = λ e. other (says (shows_it h) ∙ e); room = room h } in
              (refutes h, as_model w d (λ k m. store_words k m (length (page_at w d).log + length word) ≤ length w) (room h), turned_state s o.shaped (turned refutable)))
