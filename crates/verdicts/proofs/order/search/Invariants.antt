use Rattle.std.proofs.Common.{◌-◌, ◌++◌}
use Rattle.answers.specs.Logs.{told}
use Rattle.verdicts.proofs.Halves.{Between}
use Rattle.verdicts.proofs.order.search.Given as goal

abbrev pub invariant-loop-low : goal.invariant-loop-low
invariant-loop-low l = Between (told l.answers) l.order (l.u ++ l.x) l.low l.high

abbrev pub decreases-loop-low : goal.decreases-loop-low
decreases-loop-low l = l.high - l.low
