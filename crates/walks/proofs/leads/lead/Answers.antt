-- The letters are gone along one by one.
use Rattle.std.proofs.Common.{ℕ, suc, ◌+◌, ◌*◌, get_or, ap, ◌∙◌, arith}
use Rattle.areas.specs.Shapes.{dims}
use Rattle.store.specs.Decoding.{model_of}
use Rattle.spelling.specs.Spelt.{spelt}
use Rattle.walks.proofs.Letters.{leads_on}
use Rattle.walks.proofs.leads.lead.Goals as goal

pub loop-i-preserved : goal.loop-i-preserved
loop-i-preserved g c =
    c.next_row-row.ensures
    ∙ ap (λ (z : ℕ). get_or (model_of (g.M.Readable.held c.args.memory.now) (dims (g.M.Readable.laid_for c.args.memory.now))).successors (suc (c.loop-i.row.0 * (dims (g.M.Readable.laid_for c.args.memory.now)).keys + z)) 0) c.letter.ensures
    ∙ leads_on (dims (g.M.Readable.laid_for c.args.memory.now)).keys (model_of (g.M.Readable.held c.args.memory.now) (dims (g.M.Readable.laid_for c.args.memory.now))).successors c.args.from.0 c.loop-i.row.0 (spelt c.args.word) c.loop-i.i (omega (arith, c.min-i-end.ensures, c.count.ensures)) c.loop-i.invariant
