-- Calls with their answers, and the state that a list of calls leaves.
use Rattle.std.specs.Prelude.{ℕ, ◌+◌, ◌*◌, List, [], ◌∷◌, length, take}
use Rattle.machines.specs.Words.{Word}
use Rattle.machines.specs.Tables.{Table}
use Rattle.model.specs.States.{State, fresh, asks, showing, hears, refuted_by}
use Rattle.promises.specs.declared.Wanted.{Wanted}
use Rattle.promises.specs.declared.Wanted.TheVariants.{Ask, Larger, Broken, NoStore, Short}
use Rattle.promises.specs.declared.Given.{Given}
use Rattle.promises.specs.declared.Given.TheVariants.{Taken, NotAsked, NoRefute, Full, Unstored}

-- The table of so many rows that stands first in out.
abbrev pub table_in : State → ℕ → List ℕ → Table
table_in st rows o = take (rows * (st.keys + 1)) o

-- The state after a step, by what it wanted and what out then holds.
abbrev pub step_to : Wanted → List ℕ → State → State
step_to (Ask m) o st = asks st (take m o)
step_to (Wanted.Table rows) o st = showing st rows (table_in st rows o)
step_to Larger o st = st
step_to Broken o st = st
step_to NoStore o st = st
step_to Short o st = st

-- The state after an answer, by what came of it.
abbrev pub answer_to : Given → ℕ → State → State
answer_to Taken a st = hears st a
answer_to NotAsked a st = st
answer_to NoRefute a st = st
answer_to Full a st = st
answer_to Unstored a st = st

-- The state after a refutation, by what came of it.
abbrev pub refute_to : Given → Word → ℕ → State → State
refute_to Taken u a st = refuted_by st u a
refute_to NotAsked u a st = st
refute_to NoRefute u a st = st
refute_to Full u a st = st
refute_to Unstored u a st = st

-- A call with what it was given and what it answered: a beginning that was refused, a step with out before and after, an answer, and a refutation.
pub data Call : Type 0 where
  again : (k n room : ℕ) → Call
  stepped : (o o' : List ℕ) → Wanted → Call
  answered : ℕ → Given → Call
  refuting : Word → ℕ → Given → Call

-- The state after one more call.
abbrev pub after : Call → State → State
after (again k n room) st = st
after (stepped o o' r) st = step_to r o' st
after (answered a r) st = answer_to r a st
after (refuting u a r) st = refute_to r u a st

-- The state that a list of calls, the newest first, leaves after a beginning with k keys and at most n states.
abbrev pub replay : ℕ → ℕ → List Call → State
replay k n [] = fresh k n
replay k n (c ∷ cs) = after c (replay k n cs)

-- One for what was taken, and nothing for the rest.
abbrev pub one : Given → ℕ
one Taken = 1
one NotAsked = 0
one NoRefute = 0
one Full = 0
one Unstored = 0

-- How many answers were taken.
abbrev pub answers : List Call → ℕ
answers [] = 0
answers (again k n room ∷ cs) = answers cs
answers (stepped o o' r ∷ cs) = answers cs
answers (answered a r ∷ cs) = one r + answers cs
answers (refuting u a r ∷ cs) = answers cs

-- How many refutations were taken.
abbrev pub refutations : List Call → ℕ
refutations [] = 0
refutations (again k n room ∷ cs) = refutations cs
refutations (stepped o o' r ∷ cs) = refutations cs
refutations (answered a r ∷ cs) = refutations cs
refutations (refuting u a r ∷ cs) = one r + refutations cs

-- How many keys the refuting words that were taken have in all.
abbrev pub letters : List Call → ℕ
letters [] = 0
letters (again k n room ∷ cs) = letters cs
letters (stepped o o' r ∷ cs) = letters cs
letters (answered a r ∷ cs) = letters cs
letters (refuting u a r ∷ cs) = one r * length u + letters cs
