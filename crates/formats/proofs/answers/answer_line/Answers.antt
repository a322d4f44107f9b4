use Rattle.std.proofs.Common.{refl, ap, subst, ◌∙◌, inr}
use Rattle.std.proofs.lemmas.List.{nil_from_length}
use Rattle.std.proofs.lemmas.Result.{err_from_is_err_and}
use Rattle.formats.specs.Lines.{answer_on}
use Rattle.formats.specs.Numbers.{BeginsWithNoNumber}
use Rattle.formats.proofs.Turns.{answer_after, is_at}
use Rattle.formats.proofs.answers.answer_line.Goals as goal

pub returns-in_default : goal.returns-in_default
returns-in_default c =
    inr (answer_after _ _ _ c.in_ok-word.ensures ∙ ap (answer_on _) (nil_from_length _ c.in_default.ensures.cases))

pub returns-in_err-shown-in-Colon : goal.returns-in_err-shown-in-Colon
returns-in_err-shown-in-Colon c =
    let p = err_from_is_err_and c.from_residual-in_err-shown-in-Colon.result c.from_residual-in_err-shown-in-Colon.ensures.1 in
    rw (p.1, p.2, answer_after _ _ _ c.in_ok-word.ensures, c.in-Some.ensures.cases.0, c.in-Colon.is, ← c.in_err-shown-in-Colon.ensures) (inr refl)

pub returns-in_ok-shown-in-Colon : goal.returns-in_ok-shown-in-Colon
returns-in_ok-shown-in-Colon c =
    rw (answer_after _ _ _ c.in_ok-word.ensures, c.in-Some.ensures.cases.0, c.in-Colon.is, ← c.in_ok-shown-in-Colon.ensures)

pub returns-in_default-mark : goal.returns-in_default-mark
returns-in_default-mark c =
    let rest = c.in-Some.ensures.cases.0 in
    let mark = is_at _ _ (subst BeginsWithNoNumber rest c.in_ok-word.ensures.no_more) c.in_default-mark.not-Colon in
    rw (answer_after _ _ _ c.in_ok-word.ensures, rest, mark) (inr refl)
