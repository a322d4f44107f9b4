use Rattle.std.proofs.Common.{vec_items}
use Rattle.answers.specs.Made.{lists}
use Rattle.answers.proofs.Gathered.{Gathered}
use Rattle.answers.proofs.table.Table.from_rows.Given as goal

abbrev pub invariant-loop-i : goal.invariant-loop-i
invariant-loop-i l = Gathered (lists l.rows) l.width l.i (vec_items l.cells)
