use Rattle.std.proofs.Common.{◌≡◌, take}
use Rattle.spelling.specs.Spelt.{spelt}
use Rattle.spelling.proofs.Spelling.write.Given as goal

abbrev pub invariant-loop-i : goal.invariant-loop-i
invariant-loop-i l = take l.i l.letter-items ≡ take l.i (spelt l.self)
