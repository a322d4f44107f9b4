use Rattle.std.proofs.Common.{◌+◌, ◌*◌}
use Rattle.answers.specs.Logs.{told}
use Rattle.answers.specs.Made.{lists}
use Rattle.answers.specs.Values.{keys_of, rows_of, cells_of}
use Rattle.verdicts.specs.Faults.{EdgeApart}
use Rattle.verdicts.specs.Listings.{Lists, edge_at}
use Rattle.verdicts.proofs.checks.Examination.open_edges.Given as goal

abbrev pub invariant-loop-row : goal.invariant-loop-row
invariant-loop-row l = Lists (edge_at (keys_of l.self.table.now) (rows_of l.self.table.now)) (EdgeApart (keys_of l.self.table.now) (rows_of l.self.table.now) (cells_of l.self.table.now) (lists l.self.words.now) (told l.self.index.answers.now)) ((l.row * keys_of l.self.table.now) * rows_of l.self.table.now) l.self.most l.found

abbrev pub invariant-loop-key : goal.invariant-loop-key
invariant-loop-key l = Lists (edge_at (keys_of l.self.table.now) (rows_of l.self.table.now)) (EdgeApart (keys_of l.self.table.now) (rows_of l.self.table.now) (cells_of l.self.table.now) (lists l.self.words.now) (told l.self.index.answers.now)) ((l.row * keys_of l.self.table.now + l.key) * rows_of l.self.table.now) l.self.most l.found
