use Rattle.std.proofs.Common.{sym, ap, ◌∙◌}
use Rattle.areas.specs.Shapes.{dims}
use Rattle.moves.specs.Additions.{span_value}
use Rattle.moves.proofs.Decoded.{suffix_read}
use Rattle.moves.proofs.suffixes.suffix.Goals as goal

pub returns : goal.returns
returns g c = λ h. ap span_value c.span_at.ensures ∙ sym (suffix_read (g.M.Readable.held c.args.memory.now) (dims (g.M.Readable.laid_for c.args.memory.now)) c.args.e h)
