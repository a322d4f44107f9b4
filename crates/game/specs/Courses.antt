-- How a game has gone so far: the calls that were made, and the transcript of them.
use Rattle.std.specs.Prelude.{◌≡◌, ℕ, ◌+◌, ◌<◌, ◌≤◌, List, [], ◌∷◌, ◌++◌, length}
use Rattle.std.proofs.Math.Option.{Option, some, none}
use Rattle.std.specs.List.{AllByRecursion}
use Rattle.machines.specs.Words.{Word}
use Rattle.machines.specs.Tables.{shows, OfStates}
use Rattle.machines.specs.Answers.{Said}
use Rattle.model.specs.States.{State}
use Rattle.model.specs.Moves.{EdgesTold}
use Rattle.promises.specs.declared.Given.{Given}
use Rattle.promises.specs.declared.Given.TheVariants.{Taken, NotAsked, NoRefute, Full, Unstored}
use Rattle.promises.specs.Calls.{Call, again, stepped, answered, refuting, replay, answers, refutations, letters}
use Rattle.promises.specs.Promises.{LookedAt}
use Rattle.promises.specs.Runs.{Run}
use Rattle.store.specs.Reading.{state_of}
use Rattle.game.specs.declared.transcript.Transcript.{Transcript}
use Rattle.game.specs.Counterexamples.{Refutation, refuted_of, Refuting}

-- One refutation more, if it was taken.
abbrev pub with_refutation : Given → Refutation → List Refutation → List Refutation
with_refutation Taken x xs = xs ++ (x ∷ [])
with_refutation NotAsked x xs = xs
with_refutation NoRefute x xs = xs
with_refutation Full x xs = xs
with_refutation Unstored x xs = xs

-- The tables that were refuted in a list of calls, the oldest first.
abbrev pub refuted_in : ℕ → ℕ → List Call → List Refutation
refuted_in k n [] = []
refuted_in k n (again k' n' room ∷ cs) = refuted_in k n cs
refuted_in k n (stepped o o' r ∷ cs) = refuted_in k n cs
refuted_in k n (answered a r ∷ cs) = refuted_in k n cs
refuted_in k n (refuting u a r ∷ cs) = with_refutation r (record { hypothesis = (replay k n cs).hypothesis; word = u; shown = a }) (refuted_in k n cs)

-- These calls led to this store, with all answers those of the machine; the transcript has as many answers and letters, of which the store has room for more, and the tables that were refuted, each by the first word.
pub record Course (k n : ℕ) (machine w : List ℕ) (t : Transcript) (cs : List Call) : Type 0 where
  pub run : Run state_of k n (shows k machine) w cs
  pub asked : answers cs ≡ t.asked
  pub lengths : letters cs ≡ t.letters
  pub room : t.letters ≤ length w
  pub refuted : refuted_in k n cs ≡ refuted_of t
  pub each : AllByRecursion (Refuting k machine) (refuted_of t)

-- After these calls a table of so many rows with these numbers is looked at: it is borne out by all that was told, has no more rows than are allowed,
-- no table for the machine has fewer, and fewer tables were refuted.
pub record Looked (k n : ℕ) (machine : List ℕ) (rows : ℕ) (numbers : List ℕ) (cs : List Call) : Type 0 where
  pub at : LookedAt (replay k n cs) rows numbers
  pub borne : (ws : List Word) × EdgesTold k rows numbers ws (Said (replay k n cs).told)
  pub allowed : rows ≤ n
  pub least : (m : ℕ) → OfStates k m (shows k machine) → rows ≤ m
  pub fewer : refutations cs < rows

-- The most states that a state allows, 0 if there is none.
abbrev pub most_of : Option State → ℕ
most_of none = 0
most_of (some st) = st.most

-- The most states that a memory was begun with, 0 if it is no store.
abbrev pub most_in : List ℕ → ℕ
most_in w = most_of (state_of w)

-- How many words were told of.
abbrev pub words_of : Transcript → ℕ
words_of t = t.asked + length (refuted_of t)
