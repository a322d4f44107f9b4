use Rattle.std.proofs.Common.{refl, subst, ⊎_elim, inl, inr}
use Rattle.std.proofs.lemmas.List.{nil_from_length}
use Rattle.std.proofs.lemmas.Result.{err_from_is_err_and}
use Rattle.formats.specs.Numbers.{BeginsWithNoNumber}
use Rattle.formats.proofs.Turns.{row_after, is_colon}
use Rattle.formats.proofs.rows.row_line.Goals as goal

pub returns-in_default : goal.returns-in_default
returns-in_default c =
    rw (row_after _ _ _ c.in_ok-numbers.ensures, nil_from_length _ c.in_default.ensures.cases) c.row_of.ensures

pub returns-in_err-word-in-At : goal.returns-in_err-word-in-At
returns-in_err-word-in-At c =
    let p = err_from_is_err_and c.from_residual-in_err-word-in-At.result c.from_residual-in_err-word-in-At.ensures.1 in
    rw (p.1, p.2, row_after _ _ _ c.in_ok-numbers.ensures, c.in-Some.ensures.cases.0, c.in-At.is)
    (⊎_elim inl (λ e. inr (rw e)) c.in_err-word-in-At.ensures)

pub returns-in_ok-word-in-At : goal.returns-in_ok-word-in-At
returns-in_ok-word-in-At c =
    rw (row_after _ _ _ c.in_ok-numbers.ensures, c.in-Some.ensures.cases.0, c.in-At.is, c.in_ok-word-in-At.ensures) c.row_of-in-At.ensures

pub returns-in_default-mark : goal.returns-in_default-mark
returns-in_default-mark c =
    let rest = c.in-Some.ensures.cases.0 in
    let mark = is_colon _ _ (subst BeginsWithNoNumber rest c.in_ok-numbers.ensures.no_more) c.in_default-mark.not-At in
    rw (row_after _ _ _ c.in_ok-numbers.ensures, rest, mark) (inr refl)
