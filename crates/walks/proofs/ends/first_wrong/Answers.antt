-- The answers are gone through one by one.
use Rattle.std.proofs.Common.{not, ap, sym, ◌∙◌, arith, below_more}
use Rattle.areas.specs.Shapes.{dims}
use Rattle.walks.specs.Agreeing.{RightAt}
use Rattle.walks.proofs.Following.{answer_there, compared}
use Rattle.std.specs.Prelude.{Some}
use Rattle.std.proofs.lemmas.Bool.{not-false, true≢false}
use Rattle.moves.proofs.Seeing.{equal_seen, seen_equal}
use Rattle.walks.proofs.ends.first_wrong.Goals as goal

pub returns-then-ne : goal.returns-then-ne
returns-then-ne g c held closed =
    let inside = answer_there (g.M.Readable.held c.args.memory.now) (dims (g.M.Readable.laid_for c.args.memory.now)) c.answers-c-end.result c.loop-c.c c.answers-c-end.ensures.count (omega arith) in
    let both = compared (g.M.Readable.held c.args.memory.now) (dims (g.M.Readable.laid_for c.args.memory.now)) c.loop-c.c c.end_row.result.0 c.edge_of-edge.result.0 c.entry-shown.result c.seen.result held closed inside (c.end_row.ensures held inside) c.edge_of-edge.ensures c.entry-shown.ensures c.seen.ensures in
    record { answer_in = inside; wrong = λ e. true≢false (c.if-ne.ensures ∙ ap not (seen_equal c.seen.result (Some c.entry-shown.result.shown) (both.0 ∙ e ∙ sym both.1))); earlier = c.loop-c.invariant held closed }

pub loop-c-preserved : goal.loop-c-preserved
loop-c-preserved g c held closed =
    let inside = answer_there (g.M.Readable.held c.args.memory.now) (dims (g.M.Readable.laid_for c.args.memory.now)) c.answers-c-end.result c.loop-c.c c.answers-c-end.ensures.count (omega arith) in
    let both = compared (g.M.Readable.held c.args.memory.now) (dims (g.M.Readable.laid_for c.args.memory.now)) c.loop-c.c c.end_row.result.0 c.edge_of-edge.result.0 c.entry-shown.result c.seen.result held closed inside (c.end_row.ensures held inside) c.edge_of-edge.ensures c.entry-shown.ensures c.seen.ensures in
    below_more (RightAt (g.M.Readable.held c.args.memory.now) (dims (g.M.Readable.laid_for c.args.memory.now))) c.loop-c.c (c.loop-c.invariant held closed) (sym both.0 ∙ equal_seen c.seen.result (Some c.entry-shown.result.shown) (not-false _ (sym c.if-ne.ensures)) ∙ both.1)
