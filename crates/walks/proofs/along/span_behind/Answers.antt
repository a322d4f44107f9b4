-- The part is cut from the answer's.
use Rattle.std.proofs.Common.{ap, length, arith}
use Rattle.areas.specs.Shapes.{dims}
use Rattle.walks.proofs.Places.{behind_read}
use Rattle.walks.proofs.along.span_behind.Goals as goal

pub returns : goal.returns
returns g c h = behind_read (g.M.Readable.held c.args.memory.now) (dims (g.M.Readable.laid_for c.args.memory.now)) c.args.along c.args.place c.entry.result c.cut.result (omega (arith, ap length c.view-view.ensures.words)) h c.entry.ensures c.cut.ensures
