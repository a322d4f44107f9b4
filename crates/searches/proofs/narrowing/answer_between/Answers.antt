-- The middle's word is spelt and looked up.
use Rattle.areas.specs.Shapes.{dims}
use Rattle.spelling.specs.Spelt.{spelt}
use Rattle.lookup.proofs.Spelled.{spelt_viewed}
use Rattle.searches.proofs.Searched.{between}
use Rattle.searches.proofs.narrowing.answer_between.Goals as goal

pub returns : goal.returns
returns g c = between (g.M.Readable.held c.args.memory.now) (dims (g.M.Readable.laid_for c.args.memory.now)) c.args.search c.middle.result c.mixed-word.result (spelt c.spell.result) c.find.result c.middle.ensures c.mixed-word.ensures (spelt_viewed c.view.ensures.words c.view.ensures.shape c.spell.ensures) c.find.ensures
