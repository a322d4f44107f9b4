use Rattle.std.proofs.Common.{ℕ, ◌+◌, ◌<◌, vec_items}
use Rattle.answers.specs.Logs.{told}
use Rattle.verdicts.proofs.Quiet.{Quiet}
use Rattle.verdicts.proofs.order.Index.from_left.Given as goal

abbrev pub invariant-loop-left : goal.invariant-loop-left
invariant-loop-left l = (q : ℕ) → q < l.start + l.left-index → Quiet (told l.self.answers.now) (vec_items l.self.order) l.u l.v q
