use Rattle.std.proofs.Common.{sym, subst}
use Rattle.verdicts.specs.Verdicts.{Judged}
use Rattle.verdicts.proofs.Reported.{conflict_judged, wrong_judged, unfit_judged, alike_judged, open_judged, borne_judged}
use Rattle.verdicts.proofs.report.Report.verdict.Goals as goal

pub returns-in-Some : goal.returns-in-Some
returns-in-Some c = λ t ws answers most some h. conflict_judged t ws answers most some c.args.self.now h c.in-Some.i c.in-Some.ensures

pub returns-in-Some-head : goal.returns-in-Some-head
returns-in-Some-head c = λ t ws answers most some h. wrong_judged t ws answers most some c.args.self.now h c.in_default.ensures c.in-Some-head.i c.in-Some-head.ensures

pub returns-in-Some-head-2 : goal.returns-in-Some-head-2
returns-in-Some-head-2 c = λ t ws answers most some h. unfit_judged t ws answers most some c.args.self.now h c.in_default.ensures c.in-Some-head-2.row c.in-Some-head-2.ensures

pub returns-in-Some-head-3 : goal.returns-in-Some-head-3
returns-in-Some-head-3 c = λ t ws answers most some h. alike_judged t ws answers most some c.args.self.now h c.in_default.ensures (c.in-Some-head-3.one, c.in-Some-head-3.other) c.in-Some-head-3.ensures

pub returns-in_err-row : goal.returns-in_err-row
returns-in_err-row c = λ t ws answers most some h.
    subst (Judged t ws answers) (sym c.from_residual.ensures) (borne_judged t ws answers most some c.args.self.now h c.in_default.ensures c.in_default-head.ensures c.in_default-head-2.ensures c.in_default-head-3.ensures c.in_err-row.ensures)

pub returns : goal.returns
returns c = λ t ws answers most some h. open_judged t ws answers most some c.args.self.now h c.in_default.ensures (c.in_ok-row.row, c.in_ok-row.key, c.in_ok-row.other) c.in_ok-row.ensures
