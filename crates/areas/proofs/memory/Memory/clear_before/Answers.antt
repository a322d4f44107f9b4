use Rattle.std.proofs.Common.{refl, arith}
use Rattle.areas.specs.Shapes.{dims}
use Rattle.areas.proofs.Middle.{cleared_front}
use Rattle.areas.proofs.memory.Memory.clear_before.Goals as goal

pub returns : goal.returns
returns c =
    let done = cleared_front c.args.self.now.words.now c.fill.new.self (dims c.args.self.now.shape) c.args.area _ (omega (arith, c.min-end.ensures, c.base.ensures)) (c.fill.ensures.after (λ y h. h)) in
    record { reference = refl; shape = refl; long = done.long; words = done }
