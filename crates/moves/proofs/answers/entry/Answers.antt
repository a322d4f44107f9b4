use Rattle.std.proofs.Common.{sym, ap, ◌∙◌}
use Rattle.areas.specs.Shapes.{dims}
use Rattle.store.specs.Decoding.{entry_of}
use Rattle.moves.proofs.Decoded.{entry_read}
use Rattle.moves.proofs.answers.entry.Goals as goal

pub returns : goal.returns
returns g c = λ h. ap entry_of c.record_at.ensures ∙ sym (entry_read (g.M.Readable.held c.args.memory.now) (dims (g.M.Readable.laid_for c.args.memory.now)) c.args.c h)
