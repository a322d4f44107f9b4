-- The successor is read where it stands.
use Rattle.std.proofs.Common.{ℕ, ◌+◌, ◌*◌, List, get_or, sym, ap, ◌∙◌, arith}
use Rattle.areas.specs.Shapes.{dims}
use Rattle.store.specs.Decoding.{model_of}
use Rattle.moves.proofs.Decoded.{successors_read}
use Rattle.walks.proofs.leads.next_row.Goals as goal

pub returns : goal.returns
returns g c =
    c.load.ensures ∙ ap (λ (l : List ℕ). get_or l (1 + (c.args.row.0 * c.keys.result + c.args.key.0)) 0) (sym (successors_read (g.M.Readable.held c.args.memory.now) (dims (g.M.Readable.laid_for c.args.memory.now))))
    ∙ ap (λ (z : ℕ). get_or (model_of (g.M.Readable.held c.args.memory.now) (dims (g.M.Readable.laid_for c.args.memory.now))).successors z 0) (ap (λ (z : ℕ). 1 + (c.args.row.0 * z + c.args.key.0)) c.keys.ensures ∙ omega arith)
