-- The ends of the word.
use Rattle.std.proofs.Common.{ℕ, ◌-◌, ap, ◌∙◌, arith}
use Rattle.areas.specs.Shapes.{dims}
use Rattle.model.specs.Observations.{edge_of, cell_at}
use Rattle.moves.specs.Observed.{observed_at}
use Rattle.moves.proofs.Seeing.{seen_or}
use Rattle.refuting.proofs.Showing.{row_after_in}
use Rattle.refuting.proofs.Keeping.{search_begun}
use Rattle.refuting.proofs.refutation.first_search.Goals as goal

pub returns : goal.returns
returns g c s a =
    let w = (g.M.Readable.held c.args.memory.now) in
    let d = dims (g.M.Readable.laid_for c.args.memory.now) in
    let inside = row_after_in w d c.args.word.now s in
    let edge = c.edge_of-edge.ensures (omega (arith, inside, c.row_after.ensures)) ∙ ap (edge_of (observed_at w d)) c.row_after.ensures in
    let read = c.cell.ensures ∙ ap (λ (z : ℕ). cell_at d.most (observed_at w d) z 0) edge in
    search_begun w d c.args.word.now c.answers-number.result c.unwrap_or.result s c.answers-number.ensures.count (c.unwrap_or.ensures ∙ seen_or c.cell.result ∙ ap (λ (z : ℕ). z - 1) read) a
