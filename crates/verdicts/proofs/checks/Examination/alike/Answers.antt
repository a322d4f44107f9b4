use Rattle.answers.specs.Logs.{told}
use Rattle.answers.specs.Made.{lists}
use Rattle.answers.specs.Values.{rows_of}
use Rattle.verdicts.proofs.Checked.{pair_check}
use Rattle.verdicts.proofs.checks.Examination.alike.Goals as goal

pub returns : goal.returns
returns c = pair_check (rows_of c.args.self.now.table.now) (lists c.args.self.now.words.now) (told c.args.self.now.index.answers.now) c.args.one c.args.other c.rows_apart.result c.then_some.result c.requires.other c.rows_apart.ensures c.then_some.ensures
