-- What is waited for is taken.
use Rattle.std.proofs.Common.{◌≡◌, ℕ, ◌+◌, ◌≤◌, List, length, sym, refl, subst, ⊎_elim, arith}
use mathlib.Core.Option.{Option, some}
use Rattle.machines.specs.Words.{Word, Keys}
use Rattle.machines.specs.Tables.{shows}
use Rattle.model.specs.States.{State, store_words}
use Rattle.promises.specs.declared.Given.{Given}
use Rattle.promises.specs.declared.Given.TheVariants.{Taken, NotAsked, NoRefute, Full, Unstored}
use Rattle.promises.specs.Calls.{replay}
use Rattle.promises.specs.Promises.{Refutes, ToldSays, RefutedSays}
use Rattle.promises.specs.Runs.{TakesAnswers, TakesRefutations}
use Rattle.promises.proofs.Replays.{replayed, holds_all}

module _ (state_of : List ℕ → Option State) (st : State) where
  answer_taken : (w w' : List ℕ) (a : ℕ) (r : Given) → st.waits ≡ 1 → ToldSays state_of (some st) a w w' r → r ≡ Taken
  answer_taken w w' a Taken e s = refl
  answer_taken w w' a NotAsked e s = absurd (s.0 e)
  answer_taken w w' a NoRefute e s = absurd s
  answer_taken w w' a Full e s = absurd s
  answer_taken w w' a Unstored e s = absurd s

  refutation_taken :
      (w w' : List ℕ) (l : ℕ) (u : Word) (a : ℕ) (r : Given) → Refutes st u a → store_words st.keys st.most (st.refuted + length u) ≤ l → RefutedSays state_of (some st) l u a w w' r
      → r ≡ Taken
  refutation_taken w w' l u a Taken x room s = refl
  refutation_taken w w' l u a NotAsked x room s = absurd (s.0 x.waits)
  refutation_taken w w' l u a NoRefute x room s = absurd (⊎_elim (λ (no_keys : Keys st.keys u → ⊥). no_keys x.keys) x.wrong s.1)
  refutation_taken w w' l u a Full x room s = absurd (omega (arith, s.1))
  refutation_taken w w' l u a Unstored x room s = absurd s

module _ (state_of : List ℕ → Option State) where
  pub takes_answers : TakesAnswers state_of
  takes_answers k n b w w' cs a r run waits says = answer_taken state_of (replay k n cs) w w' a r waits (rw (holds_all state_of k n b w cs run) at says)

  pub takes_refutations : TakesRefutations state_of
  takes_refutations k n b w w' cs u a r run waits keys wrong room says =
      let st = replay k n cs in
      let x : Refutes st u a =
      record {
        waits = waits;
        keys = subst (λ (q : ℕ). Keys q u) (sym (replayed k n cs).keys) keys;
        wrong = subst (λ (q : ℕ). shows q st.hypothesis u ≡ a → ⊥) (sym (replayed k n cs).keys) wrong;
      } in
      let enough : store_words st.keys st.most (st.refuted + length u) ≤ length w = rw ((replayed k n cs).keys, (replayed k n cs).most, (replayed k n cs).refuted) room in
      refutation_taken state_of st w w' (length w) u a r x enough (rw (holds_all state_of k n b w cs run) at says)
