-- The entries before are written.
use Rattle.std.proofs.Common.{◌≡◌, take}
use Rattle.areas.specs.Shapes.{dims}
use Rattle.moves.specs.Holding.{Holds}
use Rattle.writing.proofs.Entries.{table_read}
use Rattle.writing.proofs.table.write_table.Given as goal

abbrev pub invariant-loop-p : goal.invariant-loop-p
invariant-loop-p g l = Holds (g.M.Readable.held l.memory) (dims (g.M.Readable.laid_for l.memory)) → take l.p l.number-items ≡ take l.p (table_read (g.M.Readable.held l.memory) (dims (g.M.Readable.laid_for l.memory)))
