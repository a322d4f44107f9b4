-- What a row shows is read of its cell.
use Rattle.std.proofs.Common.{◌∙◌, arith}
use Rattle.areas.specs.Shapes.{dims}
use Rattle.areas.proofs.Bases.{limits_of}
use Rattle.moves.proofs.Seeing.{or_less}
use Rattle.writing.proofs.Entries.{row_read}
use Rattle.writing.proofs.table.entry.Goals as goal

pub returns : goal.returns
returns g c h i =
    c.unwrap_or.ensures ∙ or_less c.seen.result
    ∙ row_read (g.M.Readable.held c.args.memory.now) (dims (g.M.Readable.laid_for c.args.memory.now)) c.args.row.0 c.edge_of.result.0 c.args.place c.seen.result (limits_of (g.M.Readable.laid_for c.args.memory.now)) h (omega arith) c.edge_of.ensures c.seen.ensures i
