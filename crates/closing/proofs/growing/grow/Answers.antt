-- A row is added where there is room.
use Rattle.std.proofs.Common.{arith}
use Rattle.areas.specs.Shapes.{dims}
use Rattle.areas.proofs.Memories.{writes_so}
use Rattle.closing.proofs.Grows.{row_grown, found_larger}
use Rattle.closing.proofs.growing.grow.Goals as goal

pub returns-then-rows-most : goal.returns-then-rows-most
returns-then-rows-most c = writes_so c.add_row.ensures (λ s. row_grown c.args.memory.now.words.now c.add_row.new.memory.words.now (dims c.args.memory.now.shape) c.args.edge.0 s (omega (arith, c.rows.ensures.count, c.most.ensures)) c.add_row.ensures.words)

pub returns-else-rows-most : goal.returns-else-rows-most
returns-else-rows-most c = writes_so c.enter.ensures (λ s. found_larger c.args.memory.now.words.now c.enter.new.memory.words.now (dims c.args.memory.now.shape) c.args.edge.0 s (omega (arith, c.rows.ensures.count, c.most.ensures)) c.enter.ensures.words)
