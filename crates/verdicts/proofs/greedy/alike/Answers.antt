use Rattle.answers.specs.Logs.{told}
use Rattle.verdicts.proofs.Checked.{alike_by}
use Rattle.verdicts.proofs.greedy.alike.Goals as goal

pub returns : goal.returns
returns c = alike_by (told c.args.index.now.answers.now) c.word_of.result.now c.word_of-2.result.now _ _ c.apart.result c.is_none.result c.word_of.ensures c.word_of-2.ensures c.apart.ensures c.is_none.ensures
