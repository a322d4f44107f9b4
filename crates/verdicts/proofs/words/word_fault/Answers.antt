use Rattle.std.proofs.Common.{sym, ◌∙◌}
use Rattle.std.proofs.lemmas.Bool.{eqb-true}
use Rattle.answers.specs.Logs.{told}
use Rattle.answers.specs.Values.{keys_of, cells_of}
use Rattle.verdicts.proofs.Checked.{told_by, not_unequal}
use Rattle.verdicts.proofs.words.word_fault.Goals as goal

pub returns : goal.returns
returns c =
    let led = c.in-Some.ensures in
    told_by (keys_of c.args.table.now) (cells_of c.args.table.now) (told c.args.answers.now) c.args.row.0 c.args.word.now c.first_answer.result c.is_some-told.result c.then_some.result
    (c.may_stand_for.ensures.0 c.if-not-may_stand_for.false) led.0 (sym led.2 ∙ eqb-true c.in-Some.led.0 c.args.row.0 (not_unequal _ c.if-ne.ensures)) c.first_answer.ensures c.is_some-told.ensures c.then_some.ensures
