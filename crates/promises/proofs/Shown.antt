-- What a step says after any calls, where the box has few states.
use Rattle.std.proofs.Common.{◌≡◌, ℕ, ◌+◌, ◌*◌, ◌<◌, ◌≤◌, ◌⊎◌, List, length, take, sym, refl, ◌∙◌, subst, inl, inr, arith}
use mathlib.Core.Option.{Option, some}
use Rattle.machines.specs.Words.{Word}
use Rattle.machines.specs.Tables.{Box, OfStates}
use Rattle.machines.specs.Answers.{Said, OfKeys, TwoAnswers}
use Rattle.machines.proofs.Apart.{apart_words_few}
use Rattle.machines.proofs.Leads.{borne_least, borne_right}
use Rattle.model.specs.States.{State, most_words, out_words}
use Rattle.model.specs.Moves.{EdgesTold}
use Rattle.promises.specs.declared.Wanted.{Wanted}
use Rattle.promises.specs.declared.Wanted.TheVariants.{Ask, Larger, Broken, NoStore, Short}
use Rattle.promises.specs.Calls.{Call, answers, refutations, letters, replay}
use Rattle.promises.specs.Promises.{Grows, LargerShown, NextSays}
use Rattle.promises.specs.Runs.{TablesShown, NeverStuck, GoesOn}
use Rattle.promises.proofs.Replays.{replayed, holds_all}
use Rattle.promises.proofs.Fairness.{Fair, grown, fair}
use Rattle.promises.proofs.Refutations.{states_kept, bound_kept}

module _ {b : Box} {st : State} {r m : ℕ} (f : Fair b st r) (states : OfStates st.keys m b) where
  -- As many words as rows and one more are not told apart.
  not_larger : m ≤ st.most → LargerShown st → ⊥
  not_larger few x = omega (arith, x.2, apart_words_few (Said st.told) st.keys m b x.0 states f.right f.words x.1.apart)

-- A box doesn't show two numbers after one word.
not_broken : {b : Box} {st : State} {r : ℕ} → Fair b st r → TwoAnswers (Said st.told) → ⊥
not_broken f x = x.differ (sym (f.right x.word x.one x.one_said) ∙ f.right x.word x.other x.other_said)

module _ (state_of : List ℕ → Option State) where
  pub tables_shown : TablesShown state_of
  tables_shown k n b w w' o o' cs rows run says =
      let f = fair state_of k n b w cs run in
      let e = holds_all state_of k n b w cs run in
      let told = Said (replay k n cs).told in
      let t = take (rows * (k + 1)) o' in
      let s : NextSays state_of (some (replay k n cs)) w w' o o' (Wanted.Table rows) = rw e at says in
      let words : OfKeys k told = subst (λ (q : ℕ). OfKeys q told) (replayed k n cs).keys f.words in
      let borne : (ws : List Word) × EdgesTold k rows t ws told = subst (λ (q : ℕ). (ws : List Word) × EdgesTold q rows (take (rows * (q + 1)) o') ws told) (replayed k n cs).keys s.0.borne in
      record {
        borne = borne;
        allowed = rw (replayed k n cs).most at s.0.allowed;
        least = λ m states. borne_least told k m rows b t borne.0 states f.right words borne.1.borne;
        right = λ m states few. borne_right told k m rows b t borne.0 states f.right words borne.1.borne few;
        settled = λ same. (t, borne.1.borne.sound, same);
        last = λ m states few. borne_right told k m rows b t borne.0 states f.right words borne.1.borne (omega (arith, grown f s.0));
        grows = subst (λ (q : ℕ). Grows (replay k n cs) rows (take (rows * (q + 1)) o')) (replayed k n cs).keys s.0.more;
      }

  pub never_stuck : NeverStuck state_of
  never_stuck k n m b w w' o o' cs r states few run says is =
      let f = fair state_of k n b w cs run in
      let s : NextSays state_of (some (replay k n cs)) w w' o o' r = rw (holds_all state_of k n b w cs run) at says in
      let at : (q : Wanted) → r ≡ q → NextSays state_of (some (replay k n cs)) w w' o o' q = λ q e. subst (λ (z : Wanted). NextSays state_of (some (replay k n cs)) w w' o o' z) e s in
      elim is [
        | inl e ↦ not_larger f (states_kept k n m b cs states) (omega (arith, (replayed k n cs).most)) (at Larger e).0
        | inr (inl e) ↦ not_broken f (at Broken e).0
        | inr (inr e) ↦ at NoStore e
      ]

  goes_by :
      (k n : ℕ) (w w' o o' : List ℕ) (cs : List Call) (r : Wanted) → NextSays state_of (some (replay k n cs)) w w' o o' r → ((r ≡ Larger) ⊎ ((r ≡ Broken) ⊎ (r ≡ NoStore)) → ⊥)
      → out_words k n (letters cs) ≤ length o
      → ((l : ℕ) × (r ≡ Ask l) × (answers cs + refutations cs < most_words k n (letters cs))) ⊎ ((rows : ℕ) × (r ≡ Wanted.Table rows))
  goes_by k n w w' o o' cs (Ask l) s stuck room = inl (l, refl, omega (arith, s.0.few, (replayed k n cs).told, bound_kept k n cs))
  goes_by k n w w' o o' cs (Wanted.Table rows) s stuck room = inr (rows, refl)
  goes_by k n w w' o o' cs Larger s stuck room = absurd (stuck (inl refl))
  goes_by k n w w' o o' cs Broken s stuck room = absurd (stuck (inr (inl refl)))
  goes_by k n w w' o o' cs NoStore s stuck room = absurd (stuck (inr (inr refl)))
  goes_by k n w w' o o' cs Short s stuck room =
      let short : length o < out_words k n (letters cs) = rw ((replayed k n cs).keys, (replayed k n cs).most, (replayed k n cs).refuted) at s.0 in absurd (omega arith)

  pub goes_on : GoesOn state_of
  goes_on k n m b w w' o o' cs r states few run says =
      goes_by k n w w' o o' cs r (rw (holds_all state_of k n b w cs run) at says) (never_stuck k n m b w w' o o' cs r states few run says)
