use Rattle.std.proofs.Common.{◌∙◌, add-one}
use Rattle.areas.specs.Shapes.{dims}
use Rattle.areas.proofs.Memories.{writes_so}
use Rattle.moves.proofs.Adding.{cell_set}
use Rattle.moves.proofs.cells.set_cell.Goals as goal

pub returns-in-Some : goal.returns-in-Some
returns-in-Some c =
    writes_so c.save.ensures (λ h. cell_set c.args.memory.now.words.now _ (dims c.args.memory.now.shape) c.place-place.result c.args.edge.0 c.args.suffix c.args.answer _ c.place-place.ensures (c.in-Some.ensures.1 ∙ add-one c.args.answer) c.save.ensures.words)
