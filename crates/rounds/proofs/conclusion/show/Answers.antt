-- The rows are counted, and the phase entered.
use Rattle.areas.specs.Shapes.{dims}
use Rattle.areas.proofs.Memories.{dims_kept, done_at, writes_then}
use Rattle.rounds.proofs.Concluding.{table_shown}
use Rattle.rounds.proofs.conclusion.show.Goals as goal

pub returns : goal.returns
returns c = writes_then c.set_last.ensures c.enter.ensures (λ t. table_shown c.args.memory.now.words.now c.set_last.new.memory.words.now c.enter.new.memory.words.now (dims c.args.memory.now.shape) c.rows-rows.result t c.rows-rows.ensures.count c.set_last.ensures.words (done_at c.enter.ensures (dims_kept c.set_last.ensures)))
