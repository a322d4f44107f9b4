-- The rest of a word is spelt by its parts.
use Rattle.areas.specs.Shapes.{dims}
use Rattle.lookup.proofs.Spelled.{spelt_rest}
use Rattle.lookup.proofs.parts.rest.Goals as goal

pub returns : goal.returns
returns c named = spelt_rest c.args.memory.words.now (dims c.args.memory.shape) c.args.word _ _ named c.checked_sub.ensures c.part-letters.ensures
