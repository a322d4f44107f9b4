-- Rounds of questions and answers, tables and refutations, come to an end.
use Rattle.std.proofs.Common.{◌≡◌, ℕ, zero, suc, ◌+◌, ◌≤◌, List, ◌∷◌, take, refl, arith}
use mathlib.Core.Option.{Option}
use Rattle.machines.specs.Tables.{Box, OfStates}
use Rattle.model.specs.States.{State, most_words}
use Rattle.promises.specs.declared.Wanted.{Wanted}
use Rattle.promises.specs.declared.Wanted.TheVariants.{Ask}
use Rattle.promises.specs.declared.Given.TheVariants.{Taken}
use Rattle.promises.specs.Calls.{Call, stepped, answers, refutations, letters}
use Rattle.promises.specs.Runs.{Run, steps, tells, refutes, Round, question, correction, Ends, ends, AllEnds}
use Rattle.promises.proofs.Refutations.{few_refutations, few_words}

-- What a round adds: an answer, with as many refutations and letters, or a refutation.
data Progress (state_of : List ℕ → Option State) (k n : ℕ) (b : Box) (cs : List Call) (y : List ℕ) (ds : List Call) : Type 0 where
  heard : Run state_of k n b y ds → answers ds ≡ 1 + answers cs → refutations ds ≡ refutations cs → letters ds ≡ letters cs → Progress state_of k n b cs y ds
  corrected : Run state_of k n b y ds → refutations ds ≡ 1 + refutations cs → Progress state_of k n b cs y ds

module _ (state_of : List ℕ → Option State) (k n : ℕ) (b : Box) where
  progress : (w : List ℕ) (cs : List Call) (y : List ℕ) (ds : List Call) → Run state_of k n b w cs → Round state_of k n b w cs y ds → Progress state_of k n b cs y ds
  progress w cs y ds run (question x z o o' l s t) =
      heard (tells x z (b (take l o')) Taken (stepped o o' (Ask l) ∷ cs) (steps w x o o' (Ask l) cs run s) t (λ e. refl)) refl refl refl
  progress w cs y ds run (correction x z o o' rows u s t) =
      corrected (refutes x z u (b u) Taken (stepped o o' (Wanted.Table rows) ∷ cs) (steps w x o o' (Wanted.Table rows) cs run s) t (λ e. refl)) refl

  module _ (m : ℕ) (states : OfStates k m b) where
    -- Rounds end from wherever at most f refutations are left to be taken.
    abbrev EndsWithin : ℕ → Type 0
    EndsWithin f = (w : List ℕ) (cs : List Call) → Run state_of k n b w cs → m ≤ refutations cs + f → Ends state_of k n b w cs

    -- If they end with one refutation fewer left, they end, at most g answers being left before the next refutation.
    answers_end :
        (f : ℕ) → EndsWithin f → (g : ℕ) (w : List ℕ) (cs : List Call) → Run state_of k n b w cs → m ≤ refutations cs + suc f
        → most_words k n (letters cs) ≤ (answers cs + refutations cs) + g → Ends state_of k n b w cs
    answers_end f later zero w cs run few room =
        ends w cs
        (λ y ds round.
        elim (progress w cs y ds run round) [
          | heard next a r l ↦ absurd (omega (arith, (few_words state_of k n b y ds next).few))
          | corrected next r ↦ later y ds next (omega (arith, few, r))
        ])
    answers_end f later (suc g) w cs run few room =
        ends w cs
        (λ y ds round.
        elim (progress w cs y ds run round) [
          | heard next a r l ↦ answers_end f later g y ds next (omega (arith, few, r)) (omega (arith, room, a, r, l))
          | corrected next r ↦ later y ds next (omega (arith, few, r))
        ])

    refutations_end : (f : ℕ) → EndsWithin f
    refutations_end zero w cs run few = absurd (omega (arith, few_refutations state_of k n m b w cs states run))
    refutations_end (suc f) w cs run few = answers_end f (refutations_end f) (most_words k n (letters cs)) w cs run few (omega arith)

pub all_ends : (state_of : List ℕ → Option State) → AllEnds state_of
all_ends state_of k n m b w cs states run = refutations_end state_of k n b m states m w cs run (omega arith)
