use Rattle.std.proofs.Common.{refl, ap, subst, ◌∙◌, inr}
use Rattle.std.proofs.lemmas.List.{nil_from_length}
use Rattle.formats.specs.Lines.{word_on}
use Rattle.formats.specs.Numbers.{BeginsWithNoNumber}
use Rattle.formats.proofs.Turns.{word_after, is_colon}
use Rattle.formats.proofs.rows.last_word.Goals as goal

pub returns-in_default : goal.returns-in_default
returns-in_default c =
    word_after _ _ _ c.in_ok-word.ensures ∙ ap (word_on _) (nil_from_length _ c.in_default.ensures.cases)

pub returns-in-At : goal.returns-in-At
returns-in-At c = rw (word_after _ _ _ c.in_ok-word.ensures, c.in-Some.ensures.cases.0, c.in-At.is) (inr refl)

pub returns : goal.returns
returns c =
    let rest = c.in-Some.ensures.cases.0 in
    let mark = is_colon _ _ (subst BeginsWithNoNumber rest c.in_ok-word.ensures.no_more) c.in_default-mark.not-At in
    rw (word_after _ _ _ c.in_ok-word.ensures, rest, mark) (inr refl)
