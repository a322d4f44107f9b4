-- How many refutations are taken, and how many words are told of.
use Rattle.std.proofs.Common.{◌≡◌, ℕ, ◌+◌, ◌<◌, ◌≤◌, List, length, sym, refl, ◌∙◌, subst, inl, inr, arith}
use mathlib.Core.Option.{Option, some}
use Rattle.std.proofs.lemmas.Bool.{cases_lt}
use Rattle.machines.specs.Words.{Word}
use Rattle.machines.specs.Tables.{Box, OfStates}
use Rattle.machines.specs.Answers.{Said}
use Rattle.machines.proofs.Leads.{borne_right}
use Rattle.model.specs.Bits.{fine_words}
use Rattle.model.specs.States.{State, most_words}
use Rattle.promises.specs.declared.Given.{Given}
use Rattle.promises.specs.declared.Given.TheVariants.{Taken, NotAsked, NoRefute, Full, Unstored}
use Rattle.promises.specs.Calls.{Call, one, letters, replay}
use Rattle.promises.specs.Promises.{Refutes, RefutedSays}
use Rattle.promises.specs.Runs.{begins, refused, steps, tells, refutes, FewRefutations, FewWords, FinerWords}
use Rattle.promises.proofs.Replays.{replayed, holds_all}
use Rattle.promises.proofs.Fairness.{Fair, fair}

-- A box of the keys that the calls began with is one of the keys that the state has.
pub states_kept : (k n m : ℕ) (b : Box) (cs : List Call) → OfStates k m b → OfStates (replay k n cs).keys m b
states_kept k n m b cs states = subst (λ (q : ℕ). OfStates q m b) (sym (replayed k n cs).keys) states

-- The state's bound is that of the keys, the states and the letters.
pub bound_kept : (k n : ℕ) (cs : List Call) → most_words (replay k n cs).keys (replay k n cs).most (replay k n cs).refuted ≡ most_words k n (letters cs)
bound_kept k n cs = rw ((replayed k n cs).keys, (replayed k n cs).most, (replayed k n cs).refuted)

module _ {b : Box} {st : State} {r m : ℕ} (f : Fair b st r) (states : OfStates st.keys m b) (fewer : r < m) where
  -- A table that is refuted has fewer rows than any table for the box.
  refuted_fewer : {u : Word} {a : ℕ} → Refutes st u a → a ≡ b u → 1 + r < m
  refuted_fewer {u} {a} s is =
      elim (cases_lt st.rows m) [
        | inl l ↦ omega (arith, f.unrefuted s.waits)
        | inr l ↦
            let x = f.shown s.waits in
            absurd (s.wrong (borne_right (Said st.told) st.keys m st.rows b st.hypothesis x.0 states f.right f.words x.1 l u s.keys ∙ sym is))
      ]

  given_fewer : (state_of : List ℕ → Option State) (w w' : List ℕ) (l : ℕ) (u : Word) (a : ℕ) (q : Given) → RefutedSays state_of (some st) l u a w w' q → (q ≡ Taken → a ≡ b u) → one q + r < m
  given_fewer state_of w w' l u a Taken s is = refuted_fewer s.0 (is refl)
  given_fewer state_of w w' l u a NotAsked s is = omega arith
  given_fewer state_of w w' l u a NoRefute s is = omega arith
  given_fewer state_of w w' l u a Full s is = omega arith
  given_fewer state_of w w' l u a Unstored s is = omega arith

module _ (state_of : List ℕ → Option State) where
  pub few_refutations : FewRefutations state_of
  few_refutations k n m b w cs states (begins v y room p) = states.1.some_rows
  few_refutations k n m b w cs states (refused v y k' n' room ds run p) = few_refutations k n m b v ds states run
  few_refutations k n m b w cs states (steps v y o o' r ds run s) = few_refutations k n m b v ds states run
  few_refutations k n m b w cs states (tells v y a r ds run s is) = few_refutations k n m b v ds states run
  few_refutations k n m b w cs states (refutes v y u a r ds run s is) =
      let e = holds_all state_of k n b v ds run in
      given_fewer (fair state_of k n b v ds run) (states_kept k n m b ds states) (few_refutations k n m b v ds states run) state_of v y (length v) u a r (rw e at s) is

  pub few_words : FewWords state_of
  few_words k n b w cs run =
      let f = fair state_of k n b w cs run in
      record { few = omega (arith, f.few, (replayed k n cs).told, bound_kept k n cs); counted = (replayed k n cs).told; once = f.once }

  pub finer_words : FinerWords state_of
  finer_words lawful k n b w cs run =
      let s = lawful w (replay k n cs) (holds_all state_of k n b w cs run) in
      let fine : length (replay k n cs).told ≤ fine_words k n n (letters cs) = rw ((replayed k n cs).keys, (replayed k n cs).most, (replayed k n cs).refuted) at s.fine in
      omega (arith, fine, (replayed k n cs).told)
