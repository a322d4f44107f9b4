use Rattle.std.proofs.Common.{get_or, sym, ◌∙◌}
use Rattle.areas.specs.Shapes.{dims}
use Rattle.moves.proofs.Decoded.{cells_read}
use Rattle.moves.proofs.Seeing.{seen_less}
use Rattle.moves.proofs.cells.cell.Goals as goal

pub returns : goal.returns
returns g c = seen_less _ _ c.checked_sub.ensures ∙ c.load.ensures ∙ (λ i. get_or (sym (cells_read (g.M.Readable.held c.args.memory.now) (dims (g.M.Readable.laid_for c.args.memory.now))) i) (c.place-place.ensures i) 0)
