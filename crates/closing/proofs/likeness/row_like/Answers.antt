-- The rows are gone through one by one.
use Rattle.std.proofs.Common.{◌≡◌, ℕ, ◌<◌, not, sym, ap, ◌∙◌, subst, ⊎_elim, arith}
use Rattle.std.proofs.lemmas.Bool.{cases_order}
use Rattle.areas.specs.Shapes.{dims}
use Rattle.model.specs.Observations.{edge_of}
use Rattle.moves.specs.Observed.{observed_at}
use Rattle.closing.specs.Missing.{DifferAt}
use Rattle.closing.proofs.Differing.{some_differs}
use Rattle.closing.proofs.likeness.row_like.Goals as goal

pub loop-j-preserved : goal.loop-j-preserved
loop-j-preserved g c named j h =
    ⊎_elim (λ (q : j ≡ c.loop-j.j).
    let edge = c.edge_of.ensures (omega (arith, c.rows-j-end.ensures.count)) in
    let found = some_differs (g.M.Readable.held c.args.memory.now) (dims (g.M.Readable.laid_for c.args.memory.now)) c.args.edge.0 c.edge_of.result.0 c.differ.result (c.is_none.ensures ∙ ap not c.if-is_none.false) c.differ.ensures named in
    subst (λ (z : ℕ). (e : ℕ) × DifferAt (g.M.Readable.held c.args.memory.now) (dims (g.M.Readable.laid_for c.args.memory.now)) c.args.edge.0 z e) (edge ∙ ap (edge_of (observed_at (g.M.Readable.held c.args.memory.now) (dims (g.M.Readable.laid_for c.args.memory.now)))) (sym q)) found)
    (⊎_elim (λ (q : j < c.loop-j.j). c.loop-j.invariant named j q) (λ (q : c.loop-j.j < j). absurd (omega (arith, h, q))))
    (cases_order j c.loop-j.j)
