use Rattle.answers.specs.Logs.{told}
use Rattle.answers.specs.Made.{lists}
use Rattle.answers.specs.Values.{keys_of, rows_of, cells_of}
use Rattle.verdicts.proofs.Checked.{edge_check}
use Rattle.verdicts.proofs.checks.Examination.open.Goals as goal

pub returns : goal.returns
returns c =
    let t = c.args.self.now.table.now in
    edge_check (keys_of t) (rows_of t) (cells_of t) (lists c.args.self.now.words.now) (told c.args.self.now.index.answers.now) c.args.row c.args.key c.args.other c.apart_or_there-apart.result c.then_some.result c.requires.key c.requires.other c.apart_or_there-apart.ensures c.then_some.ensures
