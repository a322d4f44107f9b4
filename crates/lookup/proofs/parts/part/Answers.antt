-- A part of an area is a part of the memory.
use Rattle.std.proofs.Common.{arith}
use Rattle.areas.specs.Shapes.{dims}
use Rattle.areas.proofs.Inside.{area_within}
use Rattle.lookup.proofs.Cuts.{part_inside}
use Rattle.lookup.proofs.parts.part.Goals as goal

pub overflow_add-result : goal.overflow_add-result
overflow_add-result c = omega (arith, area_within c.args.memory.words.now (dims c.args.memory.shape) c.args.area _ _ c.base-base.ensures.exact c.reach-reach.ensures (omega arith))

pub overflow_add-result-2 : goal.overflow_add-result-2
overflow_add-result-2 c = omega (arith, area_within c.args.memory.words.now (dims c.args.memory.shape) c.args.area _ _ c.base-base.ensures.exact c.reach-reach.ensures (omega arith))

pub overflow_add-result-3 : goal.overflow_add-result-3
overflow_add-result-3 c = omega (arith, area_within c.args.memory.words.now (dims c.args.memory.shape) c.args.area _ _ c.base-base.ensures.exact c.reach-reach.ensures (omega arith))

pub offset_bounds-memory-base : goal.offset_bounds-memory-base
offset_bounds-memory-base c = omega (arith, area_within c.args.memory.words.now (dims c.args.memory.shape) c.args.area _ _ c.base-base.ensures.exact c.reach-reach.ensures (omega arith))

pub slice_bounds-result-end-2 : goal.slice_bounds-result-end-2
slice_bounds-result-end-2 c = omega (arith, area_within c.args.memory.words.now (dims c.args.memory.shape) c.args.area _ _ c.base-base.ensures.exact c.reach-reach.ensures (omega arith))

pub returns : goal.returns
returns c =
    part_inside c.args.memory.words.now (dims c.args.memory.shape) c.args.area c.base-base.result c.args.from c.args.size _ c.base-base.ensures.exact (omega (arith, c.min-end.ensures, c.reach-reach.ensures)) (omega (arith, c.reach-reach.ensures)) (omega (arith, c.reach-reach.ensures, area_within c.args.memory.words.now (dims c.args.memory.shape) c.args.area _ _ c.base-base.ensures.exact c.reach-reach.ensures (omega arith)))
