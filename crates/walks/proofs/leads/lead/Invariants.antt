-- The row to which the letters before lead.
use Rattle.std.proofs.Common.{◌≡◌, take}
use Rattle.areas.specs.Shapes.{dims}
use Rattle.model.specs.Observations.{leads_to}
use Rattle.store.specs.Decoding.{model_of}
use Rattle.spelling.specs.Spelt.{spelt}
use Rattle.walks.proofs.leads.lead.Given as goal

abbrev pub invariant-loop-i : goal.invariant-loop-i
invariant-loop-i g l = l.row.0 ≡ leads_to (dims (g.M.Readable.laid_for l.memory)).keys (model_of (g.M.Readable.held l.memory) (dims (g.M.Readable.laid_for l.memory))).successors l.initial.row.0 (take l.i (spelt l.word))
