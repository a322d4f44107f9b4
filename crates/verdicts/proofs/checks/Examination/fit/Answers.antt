use Rattle.answers.specs.Logs.{told}
use Rattle.answers.specs.Values.{keys_of, cells_of}
use Rattle.verdicts.proofs.Checked.{fit_by}
use Rattle.verdicts.proofs.checks.Examination.fit.Goals as goal

pub returns : goal.returns
returns c = fit_by (keys_of c.args.self.now.table.now) (cells_of c.args.self.now.table.now) (told c.args.self.now.index.answers.now) c.args.row c.word.result.now _ c.word_fault.result c.is_none.result c.word.ensures c.word_fault.ensures c.is_none.ensures
