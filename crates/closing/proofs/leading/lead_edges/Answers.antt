-- The edges are gone through one by one.
use Rattle.std.proofs.Common.{subst, arith}
use Rattle.std.specs.Prelude.{Some, None}
use Rattle.closing.specs.Missing.{Likeness}
use Rattle.areas.specs.Shapes.{dims}
use Rattle.areas.proofs.Bases.{limits_of}
use Rattle.areas.proofs.Memories.{dims_kept, done_at, writes_so, writes_then}
use Rattle.closing.proofs.Held.{edges_counted}
use Rattle.closing.proofs.Led.{edge_led, edge_stray}
use Rattle.closing.proofs.leading.lead_edges.Goals as goal

pub returns-in_default : goal.returns-in_default
returns-in_default c = writes_so c.loop-u.invariant (λ t.
    let all = edges_counted c.args.memory.now.words.now (dims c.args.memory.now.shape) c.keys.result c.min-rows.result c.rows.result c.most.result t.holds c.keys.ensures c.min-rows.ensures c.rows.ensures.count c.most.ensures in
    edge_stray c.args.memory.now.words.now c.loop-u.memory.words.now (dims c.args.memory.now.shape) c.loop-u.u (limits_of c.args.memory.now.shape) t (c.loop-u.invariant.words t).0 (omega (arith, all)) (subst (λ d. Likeness c.loop-u.memory.words.now d c.loop-u.u None) (dims_kept c.loop-u.invariant) c.in_default.ensures))

pub loop-u-preserved : goal.loop-u-preserved
loop-u-preserved c = writes_then c.loop-u.invariant c.set_successor.ensures (λ t.
    let all = edges_counted c.args.memory.now.words.now (dims c.args.memory.now.shape) c.keys.result c.min-rows.result c.rows.result c.most.result t.holds c.keys.ensures c.min-rows.ensures c.rows.ensures.count c.most.ensures in
    edge_led c.args.memory.now.words.now c.loop-u.memory.words.now c.set_successor.new.memory.words.now (dims c.args.memory.now.shape) c.loop-u.u c.in-Some.row (limits_of c.args.memory.now.shape) t (c.loop-u.invariant.words t).0 (omega (arith, all)) (c.loop-u.invariant.words t).1 (subst (λ d. Likeness c.loop-u.memory.words.now d c.loop-u.u (Some c.in-Some.row)) (dims_kept c.loop-u.invariant) c.in-Some.ensures) (done_at c.set_successor.ensures (dims_kept c.loop-u.invariant)))

pub returns : goal.returns
returns c = writes_so c.loop-u.invariant (λ t.
    let all = edges_counted c.args.memory.now.words.now (dims c.args.memory.now.shape) c.keys.result c.min-rows.result c.rows.result c.most.result t.holds c.keys.ensures c.min-rows.ensures c.rows.ensures.count c.most.ensures in
    record { led = (c.loop-u.invariant.words t).0; closed = λ v h. (c.loop-u.invariant.words t).1 v (omega (arith, all, h)) })
