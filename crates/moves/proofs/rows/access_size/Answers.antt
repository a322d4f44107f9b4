use Rattle.std.proofs.Common.{◌∙◌}
use Rattle.areas.specs.Shapes.{dims}
use Rattle.areas.proofs.Bases.{limits_of}
use Rattle.moves.proofs.Spelled.{size_read}
use Rattle.moves.proofs.rows.access_size.Goals as goal

pub returns : goal.returns
returns g c = λ h. c.load.ensures ∙ size_read (g.M.Readable.held c.args.memory.now) (dims (g.M.Readable.laid_for c.args.memory.now)) c.args.row.0 (limits_of (g.M.Readable.laid_for c.args.memory.now)) h
