-- What a valid learner gives for the promises of a step, for any reading of its store.
use Rattle.std.specs.Prelude.{◌≡◌, ℕ, ◌+◌, ◌*◌, ◌<◌, List, length, take, drop}
use Rattle.std.proofs.Math.Option.{Option, some}
use Rattle.machines.specs.Words.{Word}
use Rattle.model.specs.States.{State, asks, showing}
use Rattle.model.specs.Learners.{larger, broken, Learner, waits_in, view, Valid}
use Rattle.promises.specs.declared.Wanted.{Wanted}
use Rattle.promises.specs.declared.Wanted.TheVariants.{Ask, Larger, Broken}
use Rattle.promises.specs.Calls.{table_in}
use Rattle.promises.specs.Promises.{NextSays}

-- A word stands first in out, and the rest of out is as it was.
pub record WordWritten (u : Word) (o o' : List ℕ) : Type 0 where
  pub front : take (length u) o' ≡ u
  pub rest : drop (length u) o' ≡ drop (length u) o

-- The table that a learner shows stands first in out, and the rest of out is as it was.
pub record TableWritten (c : Learner) (o o' : List ℕ) : Type 0 where
  pub front : table_in (view c) (view c).rows o' ≡ (view c).hypothesis
  pub rest : drop ((view c).rows * (c.keys + 1)) o' ≡ drop ((view c).rows * (c.keys + 1)) o

-- The learner d asks about a word where c was, and if c asked, it is the same word.
pub record AsksNext (c d : Learner) : Type 0 where
  pub valid : Valid d
  pub waits : waits_in d.phase ≡ 1
  pub is : view d ≡ asks (view c) (view d).asked
  pub calm : waits_in c.phase ≡ 2 → ⊥
  pub same : waits_in c.phase ≡ 1 → (view d).asked ≡ (view c).asked

-- The learner d shows a table where c was, and it has more rows than the last one.
pub record ShowsNext (c d : Learner) : Type 0 where
  pub valid : Valid d
  pub waits : waits_in d.phase ≡ 2
  pub is : view d ≡ showing (view c) (view d).rows (view d).hypothesis
  pub more : (view c).rows < (view d).rows

module _ (state_of : List ℕ → Option State) where
  -- A question that is put, or put again, keeps the promise.
  abbrev pub AskKept : Type 0
  AskKept =
      (c d : Learner) (w w' o o' : List ℕ) → AsksNext c d → state_of w' ≡ some (view d) → WordWritten (view d).asked o o'
      → NextSays state_of (some (view c)) w w' o o' (Ask (length (view d).asked))

  -- A table that is shown keeps the promise.
  abbrev pub TableKept : Type 0
  TableKept =
      (c d : Learner) (w w' o o' : List ℕ) → ShowsNext c d → state_of w' ≡ some (view d) → TableWritten d o o'
      → NextSays state_of (some (view c)) w w' o o' (Wanted.Table (view d).rows)

  -- So does a table that is shown once more.
  abbrev pub TableAgain : Type 0
  TableAgain =
      (c : Learner) (w o o' : List ℕ) → Valid c → waits_in c.phase ≡ 2 → state_of w ≡ some (view c) → TableWritten c o o'
      → NextSays state_of (some (view c)) w w o o' (Wanted.Table (view c).rows)

  -- So does the answer that the box is larger.
  abbrev pub LargerKept : Type 0
  LargerKept =
      (c d : Learner) (u : ℕ) (w w' o : List ℕ) → Valid d → d.phase ≡ larger u → view d ≡ view c → state_of w' ≡ some (view d)
      → NextSays state_of (some (view c)) w w' o o Larger

  -- So does the answer that there are two answers to one word.
  abbrev pub BrokenKept : Type 0
  BrokenKept = (c : Learner) (w o : List ℕ) → Valid c → c.phase ≡ broken → state_of w ≡ some (view c) → NextSays state_of (some (view c)) w w o o Broken
