-- Words that go on alike, and answers that tell two words apart.
use Rattle.std.proofs.Common.{◌≡◌, ℕ, ◌<◌, Bool, true, false, List, ◌++◌, length, get_or, drop, Decides, sym, refl, ap, ◌∙◌, subst, Option, Some, None, MatchOption, arith, ◌∷◌, []}
use Rattle.std.specs.List.{AllWithin, HoldsAt}
use Rattle.std.proofs.lemmas.List.Prefix.{front_rest}
use Rattle.std.proofs.lemmas.List.{append_cancel_left, get_or-map, length-map}
use Rattle.std.proofs.lemmas.Bool.{false≢true}
use Rattle.machines.specs.Words.{Word}
use Rattle.machines.specs.Answers.{Told, Said, ToldApart}
use Rattle.machines.proofs.Membership.{in_place}
use Rattle.answers.specs.declared.log.Answer.{Answer}
use Rattle.answers.specs.Logs.{told_of, told, no_answer, GoOnAlike, ApartBy, Partner}

pub go_on_decides : (u v a b x y : Word) (r : Bool) → a ≡ u ++ x → b ≡ v ++ y → Decides r (x ≡ y) → Decides r (GoOnAlike u v a b)
go_on_decides u v a b x y r ea eb d =
    let behind = front_rest a u x ea in (
      λ e. record { left = ea ∙ ap (λ z. u ++ z) (sym behind); right = eb ∙ ap (λ z. v ++ z) (sym (d.0 e) ∙ sym behind) },
      λ g. d.1 (sym behind ∙ append_cancel_left v (drop (length u) a) y (sym g.right ∙ eb)),
    )

-- Where the answer is no, it is because the words can't go on alike.
pub never_decides : {P : Type 0} → (P → ⊥) → Decides false P
never_decides h = (λ e. absurd (false≢true e), λ p. absurd (h p))

pub holds_decides : {P : Type 0} → P → Decides true P
holds_decides p = (λ _. p, λ _. refl)

-- An answer that was read at i is what the list says at i.
pub told_read : (answers : List Answer) (i : ℕ) (a : Answer) → i < length answers → a ≡ get_or answers i a → told_of a ≡ get_or (told answers) i no_answer
told_read answers i a h e = ap told_of e ∙ sym (get_or-map told_of answers i a no_answer h)

pub length-told : (answers : List Answer) → length (told answers) ≡ length answers
length-told answers = length-map answers told_of

-- Words that are told apart are so by two answers of the list.
pub two_answers : {answers : List Told} {u v : Word} → ToldApart (Said answers) u v → (i : ℕ) × (j : ℕ) × (i < length answers) × (j < length answers) × ApartBy u v (get_or answers i no_answer) (get_or answers j no_answer)
two_answers {answers} {u} {v} t =
    let l = in_place no_answer t.left_said in
    let r = in_place no_answer t.right_said in
    let behind = front_rest (get_or answers l.0 no_answer).word u t.behind (ap (λ (z : Told). z.word) l.2) in (
      l.0,
      r.0,
      l.1,
      r.1,
      record {
        alike = record {
          left = ap (λ (z : Told). z.word) l.2 ∙ ap (λ z. u ++ z) (sym behind);
          right = ap (λ (z : Told). z.word) r.2 ∙ ap (λ z. v ++ z) (sym behind);
        };
        differ = λ e. t.differ (sym (ap (λ (z : Told). z.shown) l.2) ∙ (e ∙ ap (λ (z : Told). z.shown) r.2));
      },
    )

-- A list with a place has an element.
pub some_of : {X : Type 0} (xs : List X) (i : ℕ) → i < length xs → X
some_of [] i h = absurd (omega (arith, h))
some_of (x ∷ xs) i h = x

-- A search through answers for one that tells u and v apart with a finds one, or there is none.
pub partner_of : (u v : Word) (a : Told) (answers : List Answer) (r : Option ℕ)
    → MatchOption r (AllWithin (λ (b : Answer). ApartBy u v a (told_of b) → ⊥) answers 0 (length answers)) (λ i. (i < length answers) × HoldsAt (λ (b : Answer). ApartBy u v a (told_of b)) answers i × AllWithin (λ (b : Answer). ApartBy u v a (told_of b) → ⊥) answers 0 i)
    → Partner u v a (told answers) r
partner_of u v a answers None h = λ j within apart.
    let here : j < length answers = omega (arith, within, length-told answers) in
    let b = some_of answers j here in
    h j b (omega arith) here (subst (ApartBy u v a) (get_or-map told_of answers j b no_answer here) apart)
partner_of u v a answers (Some i) h =
    let b = some_of answers i h.0 in
    (omega (arith, h.0, length-told answers), subst (ApartBy u v a) (sym (get_or-map told_of answers i b no_answer h.0)) (h.1 b))
