use Rattle.std.proofs.Common.{◌≡◌, ℕ, ◌<◌, get_or}
use Rattle.spelling.specs.Spelt.{spelt}
use Rattle.spelling.proofs.Spelling.same.Given as goal

abbrev pub invariant-loop-i : goal.invariant-loop-i
invariant-loop-i l = (j : ℕ) → j < l.i → get_or (spelt l.self) j 0 ≡ get_or (spelt l.other) j 0
