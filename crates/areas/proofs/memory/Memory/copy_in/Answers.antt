use Rattle.std.proofs.Common.{refl, arith}
use Rattle.areas.specs.Layout.{area_of}
use Rattle.areas.specs.Shapes.{dims}
use Rattle.areas.proofs.Inside.{area_within, rewritten_same}
use Rattle.areas.proofs.Laid.{laid_past}
use Rattle.areas.proofs.Memories.{writes_none}
use Rattle.areas.proofs.Middle.{copied_at}
use Rattle.areas.proofs.memory.Memory.copy_in.Goals as goal

pub overflow_add-base : goal.overflow_add-base
overflow_add-base c = omega (arith, area_within c.args.self.now.words.now (dims c.args.self.now.shape) c.args.area _ _ c.base-base.ensures.exact c.reach-reach.ensures (omega arith))

pub overflow_add-base-then-at-reach : goal.overflow_add-base-then-at-reach
overflow_add-base-then-at-reach c = omega (arith, area_within c.args.self.now.words.now (dims c.args.self.now.shape) c.args.area _ _ c.base-base.ensures.exact c.reach-reach.ensures (omega arith))

pub offset_bounds-self-base : goal.offset_bounds-self-base
offset_bounds-self-base c = omega (arith, area_within c.args.self.now.words.now (dims c.args.self.now.shape) c.args.area _ _ c.base-base.ensures.exact c.reach-reach.ensures (omega arith))

pub slice_bounds-copy_front-end : goal.slice_bounds-copy_front-end
slice_bounds-copy_front-end c = omega (arith, area_within c.args.self.now.words.now (dims c.args.self.now.shape) c.args.area _ _ c.base-base.ensures.exact c.reach-reach.ensures (omega arith))

pub returns-then-at-reach : goal.returns-then-at-reach
returns-then-at-reach c =
    let done = copied_at c.args.self.now.words.now c.copy_front.new.part (dims c.args.self.now.shape) c.args.area c.base-base.result c.args.at _ c.args.word.now c.base-base.ensures.exact (omega (arith, c.reach-reach.ensures)) (omega (arith, area_within c.args.self.now.words.now (dims c.args.self.now.shape) c.args.area _ _ c.base-base.ensures.exact c.reach-reach.ensures (omega arith))) c.copy_front.ensures in
    record { reference = refl; shape = refl; long = done.long; words = done }

pub returns-else-at-reach : goal.returns-else-at-reach
returns-else-at-reach c = writes_none c.args.self.now
    (rewritten_same c.args.self.now.words.now (dims c.args.self.now.shape) c.args.area _
    (laid_past (area_of c.args.self.now.words.now (dims c.args.self.now.shape) c.args.area) c.args.at c.args.word.now (omega (arith, c.reach-reach.ensures))))
