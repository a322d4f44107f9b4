-- An entry, a cell and the phase are written.
use Rattle.std.proofs.Common.{arith}
use Rattle.areas.specs.Shapes.{dims}
use Rattle.areas.proofs.Bases.{limits_of}
use Rattle.areas.proofs.Memories.{dims_kept, done_at, writes_on, writes_then}
use Rattle.filling.proofs.Hearing.{cell_heard}
use Rattle.filling.proofs.heard.hear_cell.Goals as goal

pub returns : goal.returns
returns c =
    let added = c.add_entry.ensures in
    let set = writes_on added c.set_cell.ensures in
    writes_then set c.enter.ensures (λ h f.
    cell_heard c.args.memory.now.words.now c.add_entry.new.memory.words.now c.set_cell.new.memory.words.now _ (dims c.args.memory.now.shape) c.args.edge.0 c.args.suffix c.args.answer c.answers-number.result c.cell_answer-kept.result (limits_of c.args.memory.now.shape) (omega (arith, h.long)) h f c.answers-number.ensures.count c.cell_answer-kept.ensures added.words (done_at c.set_cell.ensures (dims_kept added)) (done_at c.enter.ensures (dims_kept set)))
