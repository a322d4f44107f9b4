use Rattle.std.proofs.Common.{ℕ, ◌<◌, length, get_or}
use Rattle.answers.specs.Logs.{told, ApartBy, no_answer}
use Rattle.answers.proofs.apart.told_apart.Given as goal

abbrev pub invariant-loop-i : goal.invariant-loop-i
invariant-loop-i l = (i j : ℕ) → i < l.i → j < length (told l.answers) → ApartBy l.u l.v (get_or (told l.answers) i no_answer) (get_or (told l.answers) j no_answer) → ⊥
