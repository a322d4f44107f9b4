-- Answers that were read from a slice.
use Rattle.std.proofs.Common.{◌≡◌, ℕ, ◌<◌, List, length, get_or, vec_items, Option, Some, None, MatchOption, sym, ap, ◌∙◌, arith}
use Rattle.std.specs.List.{AllWithin, HoldsAt}
use Rattle.std.proofs.lemmas.List.{get_or-map}
use Rattle.machines.specs.Words.{Word}
use Rattle.machines.specs.Answers.{Told}
use Rattle.answers.specs.declared.log.Answer.{Answer}
use Rattle.answers.specs.Logs.{told_of, told, no_answer}
use Rattle.answers.proofs.Alike.{some_of, length-told}
use Rattle.verdicts.specs.Faults.{FirstAnswer}
use Rattle.verdicts.specs.Orders.{word_at}

word_is : (answers : List Answer) (i : ℕ) (a : Answer) → i < length answers → word_at (told answers) i ≡ vec_items (get_or answers i a).word
word_is answers i a h = ap (λ (z : Told). z.word) (get_or-map told_of answers i a no_answer h)

-- A search through answers for a word finds the first answer to it, or there is none.
pub first_of_words : (answers : List Answer) (w : Word) (r : Option ℕ)
    → MatchOption r (AllWithin (λ (a : Answer). vec_items a.word ≡ w → ⊥) answers 0 (length answers)) (λ i. (i < length answers) × HoldsAt (λ (a : Answer). vec_items a.word ≡ w) answers i × AllWithin (λ (a : Answer). vec_items a.word ≡ w → ⊥) answers 0 i)
    → FirstAnswer (told answers) w r
first_of_words answers w None h = λ i within e.
    let here : i < length answers = omega (arith, within, length-told answers) in
    let a = some_of answers i here in
    h i a (omega arith) here (sym (word_is answers i a here) ∙ e)
first_of_words answers w (Some i) h =
    let a = some_of answers i h.0 in
    let same = word_is answers i a h.0 ∙ h.1 a in
    (omega (arith, h.0, length-told answers), same, λ j l e. h.2 j a (omega arith) l (sym (word_is answers j a (omega (arith, l, h.0))) ∙ (e ∙ same)))
