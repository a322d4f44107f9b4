use Rattle.std.proofs.Common.{refl, ◌∙◌}
use Rattle.std.proofs.lemmas.Bool.{eq-eqb, false≢true}
use Rattle.answers.specs.Logs.{told}
use Rattle.verdicts.proofs.Checked.{apart_by, asked_by, not_there}
use Rattle.verdicts.proofs.checks.Examination.apart_or_there.Goals as goal

pub returns-else-eq : goal.returns-else-eq
returns-else-eq c =
    asked_by c.is_some.result (not_there c.args.self.now.table.now c.args.row c.args.key c.args.other c.next.result c.requires.row c.requires.key c.next.ensures (λ e. false≢true ((rw e at c.if-eq.ensures) ∙ eq-eqb c.args.other c.args.other refl))) (apart_by (told c.args.self.now.index.answers.now) c.args.word.now c.word.result.now _ _ c.apart.result c.is_some.result c.requires.word c.word.ensures c.apart.ensures c.is_some.ensures)
