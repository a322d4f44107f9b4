-- The middle is asked about, or the search has ended with one row more or one too many.
use Rattle.std.proofs.Common.{arith}
use Rattle.areas.specs.Shapes.{dims}
use Rattle.moves.specs.Phases.{search_value}
use Rattle.areas.proofs.Memories.{writes_so}
use Rattle.searches.proofs.Rounding.{asked_about, found_many, grown}
use Rattle.searches.proofs.turns.bisect.Goals as goal

pub returns-in-Err : goal.returns-in-Err
returns-in-Err c = writes_so c.enter.ensures (λ held p. asked_about c.args.memory.now.words.now _ (dims c.args.memory.now.shape) (search_value c.args.search) c.in-Err.place held p (c.in-Err.ensures held p) c.enter.ensures.words)

pub returns-then-rows-most : goal.returns-then-rows-most
returns-then-rows-most c = writes_so c.split.ensures (λ held p. grown c.args.memory.now.words.now _ (dims c.args.memory.now.shape) (search_value c.args.search) c.in-Ok.place held p (c.in-Ok.ensures held p) (omega (arith, c.rows.ensures.count, c.most.ensures)) c.split.ensures.words)

pub returns-else-rows-most : goal.returns-else-rows-most
returns-else-rows-most c = writes_so c.enter-else-rows-most.ensures (λ held p.
    let ended = c.in-Ok.ensures held p in
    found_many c.args.memory.now.words.now _ (dims c.args.memory.now.shape) (search_value c.args.search) c.in-Ok.place held p c.last_edge-edge.result.0 ended (omega (arith, c.rows.ensures.count, c.most.ensures)) (c.last_edge-edge.ensures (record { held = held; valid = ended.valid })) c.enter-else-rows-most.ensures.words)
