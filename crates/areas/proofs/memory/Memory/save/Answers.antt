use Rattle.std.proofs.Common.{refl, arith}
use Rattle.areas.specs.Shapes.{dims}
use Rattle.areas.proofs.Inside.{saved_at, saved_past}
use Rattle.areas.proofs.Memories.{writes_none}
use Rattle.areas.proofs.memory.Memory.save.Goals as goal

pub returns-then-i-size : goal.returns-then-i-size
returns-then-i-size c =
    let done = saved_at c.args.self.now.words.now _ (dims c.args.self.now.shape) c.args.area c.base.result c.args.i c.args.v (omega (arith, c.size.ensures)) c.base.ensures.exact c.put.ensures in
    record { reference = refl; shape = refl; long = done.long; words = done }

pub returns-else-i-size : goal.returns-else-i-size
returns-else-i-size c = writes_none c.args.self.now (saved_past c.args.self.now.words.now (dims c.args.self.now.shape) c.args.area c.args.i c.args.v (omega (arith, c.size.ensures)))
