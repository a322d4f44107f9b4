-- The table agrees with every answer, or a search begins.
use Rattle.areas.specs.Shapes.{dims}
use Rattle.moves.specs.Phases.{search_value}
use Rattle.areas.proofs.Memories.{dims_kept, done_at, writes_then}
use Rattle.rounds.proofs.Concluding.{search_rounds}
use Rattle.rounds.proofs.conclusion.conclude.Goals as goal

pub returns : goal.returns
returns c = writes_then c.enter.ensures c.bisect.ensures (λ t.
    let wrong = c.in-Some.ensures t.table.holds t.closed in
    search_rounds c.args.memory.now.words.now c.enter.new.memory.words.now c.bisect.new.memory.words.now (dims c.args.memory.now.shape) c.in-Some.wrong (search_value c.start-search.result) c.bisect.result t wrong (c.start-search.ensures t.table.holds t.closed wrong.answer_in) c.enter.ensures.words (done_at c.bisect.ensures (dims_kept c.enter.ensures)))
