-- What a call that allocates may answer.
use Rattle.std.specs.Prelude.{◌≡◌, ◌⊎◌, Ok, Err, Result, MatchResult}
use Rattle.formats.specs.declared.faults.LineFault.{LineFault}
use Rattle.formats.specs.declared.faults.LineFault.TheVariants.{Memory}

infixl 20 ◌then◌
-- What f makes of a value, or else the fault.
abbrev pub ◌then◌ : {X Y : Type 0} → Result X LineFault → (X → Result Y LineFault) → Result Y LineFault
Ok x then f = f x
Err e then f = Err e

-- The answer r, seen by view, is what is wanted, or says that there is no memory.
abbrev pub Gives : {V X : Type 0} → (V → X) → Result V LineFault → Result X LineFault → Type 0
Gives view r wanted = MatchResult r (λ v. wanted ≡ Ok (view v)) (λ e. (e ≡ Memory) ⊎ (wanted ≡ Err e))
