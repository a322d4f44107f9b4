-- The worked example of the lamp.
use Rattle.std.proofs.Common.{ℕ, zero, suc, ◌<◌, [], refl, arith}
use Rattle.machines.specs.Tables.{next}
use Rattle.machines.specs.Answers.In.{here, there}
use Rattle.machines.specs.Lamp.{lamp, LampWorks}

inside : (i x : ℕ) → i < 2 → x < 2 → next 2 lamp i x < 2
inside zero zero h l = omega arith
inside zero (suc zero) h l = omega arith
inside zero (suc (suc x)) h l = absurd (omega arith)
inside (suc zero) zero h l = omega arith
inside (suc zero) (suc zero) h l = omega arith
inside (suc zero) (suc (suc x)) h l = absurd (omega arith)
inside (suc (suc i)) x h l = absurd (omega arith)

pub lamp_works : LampWorks
lamp_works =
    record {
      sound = record { some_rows = omega arith; long = refl; inside = inside };
      lit = refl;
      dark = refl;
      apart = record { behind = []; left = 0; right = 9; left_said = here; right_said = there here; differ = λ e. omega arith };
    }
