-- The suffixes are gone through one by one.
use Rattle.std.proofs.Common.{arith}
use Rattle.areas.specs.Shapes.{dims}
use Rattle.model.proofs.Spans.{suffixes_long}
use Rattle.moves.specs.Observed.{page_at}
use Rattle.moves.proofs.Holding.{settles_after}
use Rattle.areas.proofs.Memories.{dims_kept, done_at, writes_then}
use Rattle.filling.proofs.Joining.{still_filling, edge_still, cells_more}
use Rattle.filling.proofs.table.fill_edge.Goals as goal

pub returns-then-not-fill_cell : goal.returns-then-not-fill_cell
returns-then-not-fill_cell c = writes_then c.loop-suffix.invariant c.if-not-fill_cell.ensures (λ f h.
    let s = (c.loop-suffix.invariant.words f h).0 in
    let few = suffixes_long (page_at c.args.memory.now.words.now (dims c.args.memory.now.shape)) in
    settles_after s.turned (done_at c.if-not-fill_cell.ensures (dims_kept c.loop-suffix.invariant) (still_filling f s) (edge_still c.args.edge.0 s h) (omega (arith, s.as_many_suffixes, few, c.suffixes-suffix-end.ensures.count))))

pub loop-suffix-preserved : goal.loop-suffix-preserved
loop-suffix-preserved c = writes_then c.loop-suffix.invariant c.if-not-fill_cell.ensures (λ f h.
    let inv = c.loop-suffix.invariant.words f h in
    let few = suffixes_long (page_at c.args.memory.now.words.now (dims c.args.memory.now.shape)) in
    cells_more c.args.memory.now.words.now c.loop-suffix.memory.words.now c.fill_cell.new.memory.words.now (dims c.args.memory.now.shape) c.args.edge.0 c.loop-suffix.suffix inv.0 inv.1
    (done_at c.if-not-fill_cell.ensures (dims_kept c.loop-suffix.invariant) (still_filling f inv.0) (edge_still c.args.edge.0 inv.0 h) (omega (arith, inv.0.as_many_suffixes, few, c.suffixes-suffix-end.ensures.count))))
