-- The two ends of the answer's word.
use Rattle.std.proofs.Common.{ℕ, ◌-◌, ap, ◌∙◌}
use Rattle.areas.specs.Shapes.{dims}
use Rattle.spelling.specs.Spelt.{spelt}
use Rattle.moves.proofs.Seeing.{seen_or}
use Rattle.lookup.proofs.Spelled.{rest_viewed}
use Rattle.searches.proofs.Halving.{begins_at}
use Rattle.searches.proofs.halves.start.Goals as goal

pub returns : goal.returns
returns g c held closed inside =
    begins_at (g.M.Readable.held c.args.memory.now) (dims (g.M.Readable.laid_for c.args.memory.now)) c.args.along c.count.result c.end_row.result.0 c.edge_of-edge.result.0 c.unwrap_or.result c.entry.result (spelt c.rest-word.result) held closed inside (record { answer = c.entry.ensures; letters = (rest_viewed c.view.ensures.words c.view.ensures.shape c.rest-word.ensures) }) c.count.ensures (c.end_row.ensures held inside) c.edge_of-edge.ensures (c.unwrap_or.ensures ∙ seen_or c.cell.result ∙ ap (λ (z : ℕ). z - 1) c.cell.ensures)
