use Rattle.std.proofs.Common.{sym, ◌∙◌}
use Rattle.areas.specs.Shapes.{dims}
use Rattle.moves.proofs.Spelled.{edge_read}
use Rattle.moves.proofs.rows.edge_of.Goals as goal

pub returns : goal.returns
returns g c = λ h. c.load.ensures ∙ sym (edge_read (g.M.Readable.held c.args.memory.now) (dims (g.M.Readable.laid_for c.args.memory.now)) c.args.row.0 h)
