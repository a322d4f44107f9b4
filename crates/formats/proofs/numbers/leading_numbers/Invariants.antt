use Rattle.std.proofs.Common.{◌≡◌, ◌++◌, drop, map, vec_items}
use Rattle.formats.specs.declared.scan.Token.TheVariants.{Number}
use Rattle.formats.proofs.numbers.leading_numbers.Given as goal

abbrev pub invariant-loop-i : goal.invariant-loop-i
invariant-loop-i l = l.tokens ≡ map Number (vec_items l.numbers) ++ drop l.i l.tokens
