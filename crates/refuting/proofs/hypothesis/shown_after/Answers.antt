-- What is read of the row's cell.
use Rattle.areas.specs.Shapes.{dims}
use Rattle.areas.proofs.Bases.{limits_of}
use Rattle.std.proofs.Common.{◌∙◌}
use Rattle.moves.proofs.Seeing.{or_less}
use Rattle.refuting.proofs.Showing.{shown_read}
use Rattle.refuting.proofs.hypothesis.shown_after.Goals as goal

pub returns : goal.returns
returns g c s =
    c.unwrap_or.ensures ∙ or_less c.seen.result
    ∙ shown_read (g.M.Readable.held c.args.memory.now) (dims (g.M.Readable.laid_for c.args.memory.now)) c.args.word.now s c.row_after-row.result.0 c.edge_of.result.0 c.seen.result (limits_of (g.M.Readable.laid_for c.args.memory.now)) c.row_after-row.ensures c.edge_of.ensures c.seen.ensures
