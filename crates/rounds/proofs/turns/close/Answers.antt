-- An edge like no row, or a closed table.
use Rattle.areas.specs.Shapes.{dims}
use Rattle.areas.proofs.Memories.{dims_kept, done_at, writes_then}
use Rattle.rounds.proofs.Following.{stray_rounds, led_rounds}
use Rattle.rounds.proofs.turns.close.Goals as goal

pub returns-in-Some : goal.returns-in-Some
returns-in-Some c = writes_then c.in-Some.ensures c.grow.ensures (λ t. stray_rounds c.args.memory.now.words.now c.lead_edges.new.memory.words.now c.grow.new.memory.words.now (dims c.args.memory.now.shape) c.in-Some.edge.0 c.grow.result t (c.in-Some.ensures.words t) (done_at c.grow.ensures (dims_kept c.in-Some.ensures)))

pub returns-in-None : goal.returns-in-None
returns-in-None c = writes_then c.in-None.ensures c.conclude.ensures (λ t. led_rounds c.args.memory.now.words.now c.lead_edges.new.memory.words.now c.conclude.new.memory.words.now (dims c.args.memory.now.shape) c.conclude.result t (c.in-None.ensures.words t) (done_at c.conclude.ensures (dims_kept c.in-None.ensures)))
