use Rattle.std.proofs.Common.{arith}
use Rattle.areas.specs.Shapes.{dims}
use Rattle.areas.proofs.Inside.{saved_both, saved_wide_past}
use Rattle.areas.proofs.Memories.{dims_kept, done_at, writes_none, writes_then}
use Rattle.areas.proofs.memory.Memory.save_wide.Goals as goal

pub returns-then-i-size : goal.returns-then-i-size
returns-then-i-size c = writes_then c.save.ensures c.save-then-i-size.ensures
    (saved_both c.args.self.now.words.now c.save.new.self.words.now _ (dims c.args.self.now.shape) c.args.area c.args.i c.args.v _ _ c.low.ensures c.high.ensures c.save.ensures.words (done_at c.save-then-i-size.ensures (dims_kept c.save.ensures)))

pub returns-else-i-size : goal.returns-else-i-size
returns-else-i-size c = writes_none c.args.self.now (saved_wide_past c.args.self.now.words.now (dims c.args.self.now.shape) c.args.area c.args.i c.args.v (omega (arith, c.size.ensures)))
