-- All letters of the rest are gone along.
use Rattle.areas.specs.Shapes.{dims}
use Rattle.spelling.specs.Spelt.{spelt}
use Rattle.lookup.proofs.Spelled.{rest_viewed}
use Rattle.walks.proofs.Following.{ends_at}
use Rattle.walks.proofs.ends.end_row.Goals as goal

pub returns : goal.returns
returns g c held inside =
    ends_at (g.M.Readable.held c.args.memory.now) (dims (g.M.Readable.laid_for c.args.memory.now)) c.args.c c.entry-answer.result (spelt c.rest-word.result) _ c.count.result held inside (record { answer = c.entry-answer.ensures; letters = (rest_viewed c.view.ensures.words c.view.ensures.shape c.rest-word.ensures) }) c.count.ensures c.lead.ensures
