use Rattle.std.proofs.Common.{vec_items}
use Rattle.answers.specs.Logs.{told}
use Rattle.verdicts.specs.Orders.{Ordered}
use Rattle.verdicts.proofs.order.Index.new.Given as goal

abbrev pub invariant-loop-i : goal.invariant-loop-i
invariant-loop-i l = Ordered (told l.answers) l.i (vec_items l.order)
