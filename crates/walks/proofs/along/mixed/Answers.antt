-- A row along the answer, and the part behind.
use Rattle.std.proofs.Common.{refl}
use Rattle.areas.specs.Shapes.{dims}
use Rattle.walks.proofs.Places.{mixed_read}
use Rattle.walks.proofs.along.mixed.Goals as goal

pub returns : goal.returns
returns g c h closed = mixed_read (g.M.Readable.held c.args.memory.now) (dims (g.M.Readable.laid_for c.args.memory.now)) c.args.along c.args.place c.args.shown _ h closed (c.row_along-row.ensures h.held h.answer_in) refl (c.span_behind-span.ensures h) refl
