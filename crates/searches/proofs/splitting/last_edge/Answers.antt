-- The row along the answer and its next letter.
use Rattle.std.proofs.Common.{◌≡◌, suc, ◌+◌, ◌*◌, ◌<◌, subst}
use Rattle.areas.specs.declared.shape.Shape.{Shape}
use Rattle.areas.specs.Shapes.{dims}
use Rattle.spelling.specs.Spelt.{spelt}
use Rattle.lookup.proofs.Spelled.{rest_viewed}
use Rattle.searches.proofs.Searched.{searched}
use Rattle.searches.proofs.Edges.{last_read}
use Rattle.searches.proofs.splitting.last_edge.Goals as goal

pub returns : goal.returns
returns g c h =
    last_read (g.M.Readable.held c.args.memory.now) (dims (g.M.Readable.laid_for c.args.memory.now)) c.args.search c.row_along-row.result.0 c.letter.result _ c.entry.result (spelt c.rest-word.result) h (c.row_along-row.ensures h.held (searched (g.M.Readable.held c.args.memory.now) (dims (g.M.Readable.laid_for c.args.memory.now)) c.args.search h).along_in) (record { answer = c.entry.ensures; letters = (rest_viewed c.view.ensures.words c.view.ensures.shape c.rest-word.ensures) }) c.letter.ensures (subst (λ (z : Shape). suc (c.row_along-row.result.0 * (dims z).keys + c.letter.result) < 4294967296 → c.edge_behind.result.0 ≡ suc (c.row_along-row.result.0 * (dims z).keys + c.letter.result)) c.view-2.ensures.shape c.edge_behind.ensures)
