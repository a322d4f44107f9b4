use Rattle.std.proofs.Common.{sym, ◌∙◌}
use Rattle.areas.specs.Shapes.{dims}
use Rattle.moves.proofs.Decoded.{last_read}
use Rattle.moves.proofs.counters.last.Goals as goal

pub returns : goal.returns
returns g c = c.load.ensures ∙ sym (last_read (g.M.Readable.held c.args.memory.now) (dims (g.M.Readable.laid_for c.args.memory.now)))
