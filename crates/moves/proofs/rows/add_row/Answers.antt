use Rattle.std.proofs.Common.{ℕ, ◌*◌, take, sym, ap, arith}
use Rattle.std.proofs.lemmas.List.{length-take-le}
use Rattle.areas.specs.Shapes.{dims}
use Rattle.areas.proofs.Bases.{limits_of}
use Rattle.areas.proofs.Memories.{dims_kept, done_at, writes_on, writes_then}
use Rattle.moves.proofs.Growing.{row_added}
use Rattle.moves.proofs.rows.add_row.Goals as goal

pub returns-then-row-most : goal.returns-then-row-most
returns-then-row-most c =
    let copied = c.copy_in.ensures in
    let sized = writes_on copied c.save.ensures in
    let edged = writes_on sized c.save-then-row-most.ensures in
    writes_then edged c.save-then-row-most-2.ensures (λ h r.
    let out = c.write_edge-size.new.out in
    let size = c.write_edge-size.result in
    row_added c.args.memory.now.words.now c.copy_in.new.self.words.now c.save.new.self.words.now c.save-then-row-most.new.self.words.now _ (dims c.args.memory.now.shape) c.rows-row.result c.args.edge.0 _ size (take size out) (limits_of c.args.memory.now.shape) h r c.rows-row.ensures.word
    (ap (λ (z : ℕ). c.rows-row.result * z) c.most-then-row-most.ensures)
    (sym (length-take-le size out c.write_edge-size.ensures.within))
    (c.write_edge-size.ensures.written h (omega arith))
    copied.words (done_at c.save.ensures (dims_kept copied)) (done_at c.save-then-row-most.ensures (dims_kept sized)) (done_at c.save-then-row-most-2.ensures (dims_kept edged)))
