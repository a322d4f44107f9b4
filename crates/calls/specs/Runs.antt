-- The finer bound on the words told of.
use Rattle.std.specs.Prelude.{ℕ, ◌+◌, ◌≤◌, List}
use Rattle.machines.specs.Tables.{Box}
use Rattle.model.specs.Bits.{fine_words}
use Rattle.promises.specs.Calls.{Call, answers, refutations, letters}
use Rattle.promises.specs.Runs.{Run}
use Rattle.store.specs.Reading.{state_of}

-- After any calls, the answers and refutations taken are within the finer bound.
abbrev pub FinerBound : Type 0
FinerBound = (k n : ℕ) (b : Box) (w : List ℕ) (cs : List Call) → Run state_of k n b w cs → answers cs + refutations cs ≤ fine_words k n n (letters cs)
