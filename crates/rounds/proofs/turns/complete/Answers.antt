-- The table is full.
use Rattle.areas.specs.Shapes.{dims}
use Rattle.areas.proofs.Memories.{dims_kept, done_at, writes_then}
use Rattle.rounds.proofs.Following.{filled_rounds}
use Rattle.rounds.proofs.turns.complete.Goals as goal

pub returns-then-fill : goal.returns-then-fill
returns-then-fill c = writes_then c.if-fill.ensures c.close.ensures (λ f. filled_rounds c.args.memory.now.words.now c.fill.new.memory.words.now c.close.new.memory.words.now (dims c.args.memory.now.shape) c.close.result f (c.if-fill.ensures.words f) (done_at c.close.ensures (dims_kept c.if-fill.ensures)))
