use Rattle.std.proofs.Common.{refl, arith}
use Rattle.areas.specs.Shapes.{dims}
use Rattle.areas.proofs.Inside.{area_within}
use Rattle.areas.proofs.Middle.{cleared_at}
use Rattle.areas.proofs.memory.Memory.clear.Goals as goal

pub overflow_add-base : goal.overflow_add-base
overflow_add-base c = omega (arith, area_within c.args.self.now.words.now (dims c.args.self.now.shape) c.args.area _ _ c.base-base.ensures.exact c.reach-reach.ensures (omega arith))

pub offset_bounds-self-base : goal.offset_bounds-self-base
offset_bounds-self-base c = omega (arith, area_within c.args.self.now.words.now (dims c.args.self.now.shape) c.args.area _ _ c.base-base.ensures.exact c.reach-reach.ensures (omega arith))

pub slice_bounds-fill-end : goal.slice_bounds-fill-end
slice_bounds-fill-end c = omega (arith, area_within c.args.self.now.words.now (dims c.args.self.now.shape) c.args.area _ _ c.base-base.ensures.exact c.reach-reach.ensures (omega arith))

pub returns-then-reach-gt0 : goal.returns-then-reach-gt0
returns-then-reach-gt0 c =
    let done = cleared_at c.args.self.now.words.now c.fill.new.self (dims c.args.self.now.shape) c.args.area c.base-base.result _ c.base-base.ensures.exact (omega (arith, c.reach-reach.ensures)) (omega (arith, area_within c.args.self.now.words.now (dims c.args.self.now.shape) c.args.area _ _ c.base-base.ensures.exact c.reach-reach.ensures (omega arith))) (c.fill.ensures.after (λ y h. h)) in
    record { reference = refl; shape = refl; long = done.long; words = done }
