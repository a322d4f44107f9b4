use Rattle.answers.specs.Logs.{told}
use Rattle.verdicts.proofs.Checked.{apart_by, asked_by}
use Rattle.verdicts.proofs.checks.Examination.rows_apart.Goals as goal

pub returns-else-one-other : goal.returns-else-one-other
returns-else-one-other c =
    asked_by c.is_some.result c.if-one-other.false (apart_by (told c.args.self.now.index.answers.now) c.word.result.now c.word-else-one-other.result.now _ _ c.apart.result c.is_some.result c.word.ensures c.word-else-one-other.ensures c.apart.ensures c.is_some.ensures)
