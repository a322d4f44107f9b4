use Rattle.answers.specs.Logs.{told}
use Rattle.verdicts.proofs.Checked.{consistent_by}
use Rattle.verdicts.proofs.checks.Examination.consistent.Goals as goal

pub returns : goal.returns
returns c = consistent_by (told c.args.self.now.index.answers.now) c.args.i c.word_of.result.now c.other_than.result c.is_none.result c.word_of.ensures c.other_than.ensures c.is_none.ensures
