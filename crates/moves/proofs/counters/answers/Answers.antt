use Rattle.std.proofs.Common.{sym, ◌∙◌}
use Rattle.areas.specs.Shapes.{dims}
use Rattle.moves.proofs.Decoded.{answers_read}
use Rattle.moves.proofs.counters.answers.Goals as goal

pub returns : goal.returns
returns g c = record { word = c.load.ensures; count = c.load.ensures ∙ sym (answers_read (g.M.Readable.held c.args.memory.now) (dims (g.M.Readable.laid_for c.args.memory.now))) }
