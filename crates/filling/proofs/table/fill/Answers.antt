-- The edges are gone through one by one.
use Rattle.std.proofs.Common.{arith}
use Rattle.areas.specs.Shapes.{dims}
use Rattle.moves.proofs.Holding.{settles_after}
use Rattle.areas.proofs.Memories.{dims_kept, done_at, writes_so, writes_then}
use Rattle.filling.proofs.Joining.{still_filling, edge_still, edge_before, edges_more}
use Rattle.closing.proofs.Held.{edges_counted}
use Rattle.filling.proofs.table.fill.Goals as goal

pub returns-then-not-fill_edge : goal.returns-then-not-fill_edge
returns-then-not-fill_edge c = writes_then c.loop-u.invariant c.if-not-fill_edge.ensures (λ f.
    let s = (c.loop-u.invariant.words f).0 in
    let all = edges_counted c.args.memory.now.words.now (dims c.args.memory.now.shape) c.keys.result c.min-rows.result c.rows.result c.most.result f.holds c.keys.ensures c.min-rows.ensures c.rows.ensures.count c.most.ensures in
    settles_after s.turned (done_at c.if-not-fill_edge.ensures (dims_kept c.loop-u.invariant) (still_filling f s) (edge_still c.loop-u.u s (omega (arith, all)))))

pub loop-u-preserved : goal.loop-u-preserved
loop-u-preserved c = writes_then c.loop-u.invariant c.if-not-fill_edge.ensures (λ f.
    let inv = c.loop-u.invariant.words f in
    let all = edges_counted c.args.memory.now.words.now (dims c.args.memory.now.shape) c.keys.result c.min-rows.result c.rows.result c.most.result f.holds c.keys.ensures c.min-rows.ensures c.rows.ensures.count c.most.ensures in
    edges_more c.args.memory.now.words.now c.loop-u.memory.words.now c.fill_edge.new.memory.words.now (dims c.args.memory.now.shape) c.loop-u.u inv.0 inv.1
    (done_at c.if-not-fill_edge.ensures (dims_kept c.loop-u.invariant) (still_filling f inv.0) (edge_still c.loop-u.u inv.0 (omega (arith, all)))))

pub returns : goal.returns
returns c = writes_so c.loop-u.invariant (λ f.
    let inv = c.loop-u.invariant.words f in
    let all = edges_counted c.args.memory.now.words.now (dims c.args.memory.now.shape) c.keys.result c.min-rows.result c.rows.result c.most.result f.holds c.keys.ensures c.min-rows.ensures c.rows.ensures.count c.most.ensures in
    record { fills = inv.0; full = λ v e h l. inv.1 v e (omega (arith, all, edge_before v inv.0 h)) (omega (arith, l, inv.0.as_many_suffixes)) })
