-- A store holds what the calls say.
use Rattle.std.proofs.Common.{◌≡◌, ℕ, ◌+◌, ◌*◌, List, [], ◌∷◌, length, refl, ap, ◌∙◌, zero-mul, arith}
use mathlib.Core.Option.{Option, some}
use Rattle.machines.specs.Words.{Word}
use Rattle.model.specs.States.{State}
use Rattle.promises.specs.declared.Wanted.{Wanted}
use Rattle.promises.specs.declared.Wanted.TheVariants.{Ask, Larger, Broken, NoStore, Short}
use Rattle.promises.specs.declared.Given.{Given}
use Rattle.promises.specs.declared.Given.TheVariants.{Taken, NotAsked, NoRefute, Full, Unstored}
use Rattle.promises.specs.Calls.{Call, again, stepped, answered, refuting, step_to, answer_to, refute_to, one, answers, refutations, letters, replay}
use Rattle.promises.specs.Promises.{NextSays, ToldSays, RefutedSays}
use Rattle.promises.specs.Runs.{begins, refused, steps, tells, refutes, HoldsAll}

-- A state has the keys and the most states of another, and so many more words told of and letters of refuting words.
record Adds (st q : State) (words more : ℕ) : Type 0 where
  keys : st.keys ≡ q.keys
  most : st.most ≡ q.most
  told : length st.told ≡ words + length q.told
  refuted : st.refuted ≡ more + q.refuted

nothing : (st : State) → Adds st st 0 0
nothing st = record { keys = refl; most = refl; told = omega arith; refuted = omega arith }

step_adds : (r : Wanted) (o : List ℕ) (st : State) → Adds (step_to r o st) st 0 0
step_adds (Ask m) o st = record { keys = refl; most = refl; told = omega arith; refuted = omega arith }
step_adds (Wanted.Table rows) o st = record { keys = refl; most = refl; told = omega arith; refuted = omega arith }
step_adds Larger o st = nothing st
step_adds Broken o st = nothing st
step_adds NoStore o st = nothing st
step_adds Short o st = nothing st

answer_adds : (r : Given) (a : ℕ) (st : State) → Adds (answer_to r a st) st (one r) 0
answer_adds Taken a st = record { keys = refl; most = refl; told = omega arith; refuted = omega arith }
answer_adds NotAsked a st = nothing st
answer_adds NoRefute a st = nothing st
answer_adds Full a st = nothing st
answer_adds Unstored a st = nothing st

refute_adds : (r : Given) (u : Word) (a : ℕ) (st : State) → Adds (refute_to r u a st) st (one r) (one r * length u)
refute_adds Taken u a st = record { keys = refl; most = refl; told = omega arith; refuted = omega arith }
refute_adds NotAsked u a st = rw zero-mul (nothing st)
refute_adds NoRefute u a st = rw zero-mul (nothing st)
refute_adds Full u a st = rw zero-mul (nothing st)
refute_adds Unstored u a st = rw zero-mul (nothing st)

-- What a list of calls leaves, in numbers: the keys and the most states that it began with, and as many words told of and letters as were taken.
pub record Replayed (k n : ℕ) (cs : List Call) : Type 0 where
  pub keys : (replay k n cs).keys ≡ k
  pub most : (replay k n cs).most ≡ n
  pub told : length (replay k n cs).told ≡ answers cs + refutations cs
  pub refuted : (replay k n cs).refuted ≡ letters cs

pub replayed : (k n : ℕ) (cs : List Call) → Replayed k n cs
replayed k n [] = record { keys = refl; most = refl; told = refl; refuted = refl }
replayed k n (again k' n' room ∷ cs) = let h = replayed k n cs in record { keys = h.keys; most = h.most; told = h.told; refuted = h.refuted }
replayed k n (stepped o o' r ∷ cs) =
    let x = step_adds r o' (replay k n cs) in
    let h = replayed k n cs in
    record { keys = x.keys ∙ h.keys; most = x.most ∙ h.most; told = omega arith; refuted = omega arith }
replayed k n (answered a r ∷ cs) =
    let x = answer_adds r a (replay k n cs) in
    let h = replayed k n cs in
    record { keys = x.keys ∙ h.keys; most = x.most ∙ h.most; told = omega arith; refuted = omega arith }
replayed k n (refuting u a r ∷ cs) =
    let x = refute_adds r u a (replay k n cs) in
    let h = replayed k n cs in
    record { keys = x.keys ∙ h.keys; most = x.most ∙ h.most; told = omega arith; refuted = omega arith }

module _ (state_of : List ℕ → Option State) where
  step_holds : (w w' o o' : List ℕ) (st : State) (r : Wanted) → state_of w ≡ some st → NextSays state_of (some st) w w' o o' r → state_of w' ≡ some (step_to r o' st)
  step_holds w w' o o' st (Ask m) e s = s.1
  step_holds w w' o o' st (Wanted.Table rows) e s = s.1
  step_holds w w' o o' st Larger e s = s.1
  step_holds w w' o o' st Broken e s = s.1
  step_holds w w' o o' st NoStore e s = absurd s
  step_holds w w' o o' st Short e s = ap state_of s.1 ∙ e

  answer_holds : (w w' : List ℕ) (st : State) (a : ℕ) (r : Given) → state_of w ≡ some st → ToldSays state_of (some st) a w w' r → state_of w' ≡ some (answer_to r a st)
  answer_holds w w' st a Taken e s = s.1
  answer_holds w w' st a NotAsked e s = ap state_of s.1 ∙ e
  answer_holds w w' st a NoRefute e s = absurd s
  answer_holds w w' st a Full e s = absurd s
  answer_holds w w' st a Unstored e s = absurd s

  refute_holds :
      (w w' : List ℕ) (st : State) (b : ℕ) (u : Word) (a : ℕ) (r : Given) → state_of w ≡ some st → RefutedSays state_of (some st) b u a w w' r
      → state_of w' ≡ some (refute_to r u a st)
  refute_holds w w' st b u a Taken e s = s.2
  refute_holds w w' st b u a NotAsked e s = ap state_of s.1 ∙ e
  refute_holds w w' st b u a NoRefute e s = ap state_of s.2 ∙ e
  refute_holds w w' st b u a Full e s = ap state_of s.2 ∙ e
  refute_holds w w' st b u a Unstored e s = absurd s

  pub holds_all : HoldsAll state_of
  holds_all k n b w cs (begins v y room p) = p.ready refl
  holds_all k n b w cs (refused v y k' n' room ds run p) = ap state_of (p.kept refl) ∙ holds_all k n b v ds run
  holds_all k n b w cs (steps v y o o' r ds run s) = let e = holds_all k n b v ds run in step_holds v y o o' (replay k n ds) r e (rw e at s)
  holds_all k n b w cs (tells v y a r ds run s right) = let e = holds_all k n b v ds run in answer_holds v y (replay k n ds) a r e (rw e at s)
  holds_all k n b w cs (refutes v y u a r ds run s right) = let e = holds_all k n b v ds run in refute_holds v y (replay k n ds) (length v) u a r e (rw e at s)
