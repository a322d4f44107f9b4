-- A word of the page is spelt by its parts.
use Rattle.std.proofs.Common.{ℕ, ◌*◌, ap}
use Rattle.areas.specs.Shapes.{dims}
use Rattle.lookup.proofs.Spelled.{spelt_named}
use Rattle.lookup.proofs.parts.spell.Goals as goal

pub returns : goal.returns
returns c named = spelt_named c.args.memory.words.now (dims c.args.memory.shape) c.args.word _ _ _ _ _ named c.checked_sub.ensures (ap (λ (z : ℕ). c.args.word.row * z) c.most.ensures) c.load-size.ensures c.part.ensures c.part-2.ensures
