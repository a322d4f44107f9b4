use Rattle.std.proofs.Common.{ℕ, List, get_or, sym, ap, ◌∙◌}
use Rattle.areas.specs.Shapes.{dims}
use Rattle.moves.proofs.Decoded.{successors_read}
use Rattle.moves.proofs.successors.successor.Goals as goal

pub returns : goal.returns
returns g c = c.load.ensures ∙ ap (λ (z : List ℕ). get_or z c.args.edge.0 0) (sym (successors_read (g.M.Readable.held c.args.memory.now) (dims (g.M.Readable.laid_for c.args.memory.now))))
