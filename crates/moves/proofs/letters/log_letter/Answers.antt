use Rattle.std.proofs.Common.{sym, ◌∙◌}
use Rattle.areas.specs.Shapes.{dims}
use Rattle.moves.proofs.Decoded.{letter_read}
use Rattle.moves.proofs.letters.log_letter.Goals as goal

pub returns : goal.returns
returns g c = λ h. c.load.ensures ∙ sym (letter_read (g.M.Readable.held c.args.memory.now) (dims (g.M.Readable.laid_for c.args.memory.now)) c.args.i h)
