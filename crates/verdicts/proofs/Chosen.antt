-- Choosing answers one by one whose words are told apart.
use Rattle.std.proofs.Common.{◌≡◌, ℕ, ◌+◌, ◌<◌, ◌≤◌, List, [], ◌∷◌, ◌++◌, map, length, get_or, Option, Some, None, MatchOption, sym, refl, ap, ◌∙◌, subst, inl, inr, arith}
use Rattle.std.proofs.lemmas.List.{length_push, get_or_append_left, get_or_push, get_or-map, length-map}
use Rattle.std.specs.List.{AllWithin, HoldsAt}
use Rattle.std.proofs.lemmas.Bool.{cases_lt, cases_order}
use Rattle.machines.specs.Words.{Word}
use Rattle.machines.specs.Answers.{Told, Said, ToldApart, AllApart}
use Rattle.machines.proofs.Apart.{apart_words_few}
use Rattle.verdicts.specs.Greedy.{FirstAlike, ApartFromAll, Greedy}
use Rattle.verdicts.specs.Orders.{word_at, FirstSaid}
use Rattle.verdicts.proofs.Judged.{first_is_said}
use Rattle.verdicts.proofs.Quiet.{apart_sym}

pub first_alike_at : (answers : List Told) (chosen : List ℕ) (i : ℕ) (r : Option ℕ)
    → MatchOption r (AllWithin (λ (j : ℕ). ToldApart (FirstSaid answers) (word_at answers i) (word_at answers j)) chosen 0 (length chosen))
    (λ q. (q < length chosen) × HoldsAt (λ (j : ℕ). ToldApart (FirstSaid answers) (word_at answers i) (word_at answers j) → ⊥) chosen q × AllWithin (λ (j : ℕ). ToldApart (FirstSaid answers) (word_at answers i) (word_at answers j)) chosen 0 q) → FirstAlike answers chosen i r
first_alike_at answers chosen i None h = λ q l. h q 0 (omega arith) l
first_alike_at answers chosen i (Some q) h = (h.0, h.1 0)

-- Among the first n answers some are chosen, each told apart from those chosen before; none of the others could be.
pub record Choosing (answers : List Told) (n : ℕ) (chosen : List ℕ) : Type 0 where
  pub inside : (q : ℕ) → q < length chosen → get_or chosen q 0 < length answers
  pub apart : (p q : ℕ) → p < q → q < length chosen → ToldApart (FirstSaid answers) (word_at answers (get_or chosen q 0)) (word_at answers (get_or chosen p 0))
  pub full : (i : ℕ) → i < n → (q : ℕ) × (q < length chosen) × (ToldApart (FirstSaid answers) (word_at answers i) (word_at answers (get_or chosen q 0)) → ⊥)

-- The first answers say one thing of each word, so no word is told apart from itself.
never_itself : (answers : List Told) (w : Word) → ToldApart (FirstSaid answers) w w → ⊥
never_itself answers w t =
    let a = t.left_said in
    let b = t.right_said in
    t.differ (elim (cases_order a.0 b.0) [
      | inl e ↦ sym a.3 ∙ (ap (λ (z : ℕ). (get_or answers z (record { word = []; shown = 0 })).shown) e ∙ b.3)
      | inr (inl l) ↦ absurd (b.4 a.0 l (a.2 ∙ sym b.2))
      | inr (inr l) ↦ absurd (a.4 b.0 l (b.2 ∙ sym a.2))
    ])

-- An answer is left out since it is not told apart from some chosen one.
pub choosing_left : (answers : List Told) (n : ℕ) (chosen : List ℕ) (q : ℕ) → q < length chosen → (ToldApart (FirstSaid answers) (word_at answers n) (word_at answers (get_or chosen q 0)) → ⊥) → Choosing answers n chosen → Choosing answers (n + 1) chosen
choosing_left answers n chosen q h alike c = record {
  inside = c.inside;
  apart = c.apart;
  full = λ i k. elim (cases_lt i n) [ inl l ↦ c.full i l | inr l ↦ (q, h, λ t. alike (subst (λ z. ToldApart (FirstSaid answers) (word_at answers z) (word_at answers (get_or chosen q 0))) (omega (arith, k, l)) t)) ];
}

-- An answer is chosen.
pub choosing_more : (answers : List Told) (n : ℕ) (chosen : List ℕ) → n < length answers → ApartFromAll answers chosen n → Choosing answers n chosen → Choosing answers (n + 1) (chosen ++ (n ∷ []))
choosing_more answers n chosen within apart c = record {
  inside = λ q h. elim (cases_lt q (length chosen)) [
    | inl l ↦ subst (λ z. z < length answers) (sym (old q l)) (c.inside q l)
    | inr l ↦ subst (λ z. z < length answers) (sym (new q h l)) within
  ];
  apart = λ p q l h. elim (cases_lt q (length chosen)) [
    | inl k ↦ subst (λ z. ToldApart (FirstSaid answers) (word_at answers z) (word_at answers (get_or (chosen ++ (n ∷ [])) p 0))) (sym (old q k))
        (subst (λ z. ToldApart (FirstSaid answers) (word_at answers (get_or chosen q 0)) (word_at answers z)) (sym (old p (omega (arith, l, k)))) (c.apart p q l k))
    | inr k ↦ subst (λ z. ToldApart (FirstSaid answers) (word_at answers z) (word_at answers (get_or (chosen ++ (n ∷ [])) p 0))) (sym (new q h k))
        (subst (λ z. ToldApart (FirstSaid answers) (word_at answers n) (word_at answers z)) (sym (old p (omega (arith, l, h, length_push chosen n)))) (apart p (omega (arith, l, h, length_push chosen n))))
  ];
  full = λ i h. elim (cases_lt i n) [
    | inl l ↦ let e = c.full i l in (e.0, omega (arith, e.1, length_push chosen n), λ t. e.2 (subst (λ z. ToldApart (FirstSaid answers) (word_at answers i) (word_at answers z)) (old e.0 e.1) t))
    | inr l ↦ (
      length chosen,
      omega (arith, length_push chosen n),
      λ t. never_itself answers (word_at answers n)
          (subst (λ z. ToldApart (FirstSaid answers) (word_at answers z) (word_at answers n)) (omega (arith, h, l)) (subst (λ z. ToldApart (FirstSaid answers) (word_at answers i) (word_at answers z)) (get_or_push chosen n 0 (length chosen) refl) t)),
    )
  ];
}
  where
    old : (q : ℕ) → q < length chosen → get_or (chosen ++ (n ∷ [])) q 0 ≡ get_or chosen q 0
    old q h = get_or_append_left chosen (n ∷ []) 0 q h

    new : (q : ℕ) → q < length (chosen ++ (n ∷ [])) → length chosen ≤ q → get_or (chosen ++ (n ∷ [])) q 0 ≡ n
    new q h l = get_or_push chosen n 0 q (omega (arith, h, l, length_push chosen n))

-- An answer was looked at: it is chosen where its word is told apart from all, and left out where it is not.
pub choosing_next : (answers : List Told) (n : ℕ) (chosen seen next : List ℕ) (r : Option ℕ) → Choosing answers n chosen → n < length answers → seen ≡ chosen → FirstAlike answers seen n r
    → (r ≡ None → next ≡ chosen ++ (n ∷ [])) → ((q : ℕ) → r ≡ Some q → next ≡ chosen) → Choosing answers (n + 1) next
choosing_next answers n chosen seen next None c within same apart taken left =
    subst (Choosing answers (n + 1)) (sym (taken refl)) (choosing_more answers n chosen within (subst (λ z. FirstAlike answers z n None) same apart) c)
choosing_next answers n chosen seen next (Some q) c within same alike taken left =
    let a = subst (λ z. FirstAlike answers z n (Some q)) same alike in
    subst (Choosing answers (n + 1)) (sym (left q refl)) (choosing_left answers n chosen q a.0 a.1 c)

module _ (answers : List Told) (chosen : List ℕ) (c : Choosing answers (length answers) chosen) where
  said : {u v : Word} → ToldApart (FirstSaid answers) u v → ToldApart (Said answers) u v
  said t = record { behind = t.behind; left = t.left; right = t.right; left_said = first_is_said answers _ _ t.left_said; right_said = first_is_said answers _ _ t.right_said; differ = t.differ }

  all_apart : AllApart (Said answers) (map (word_at answers) chosen)
  all_apart i j hi hj ne =
      let n = length-map chosen (word_at answers) in
      let hi' : i < length chosen = omega (arith, hi, n) in
      let hj' : j < length chosen = omega (arith, hj, n) in
      let at : (q : ℕ) → q < length chosen → get_or (map (word_at answers) chosen) q [] ≡ word_at answers (get_or chosen q 0) = λ q h. get_or-map (word_at answers) chosen q 0 [] h in
      subst (λ z. ToldApart (Said answers) z (get_or (map (word_at answers) chosen) j [])) (sym (at i hi')) (subst (λ z. ToldApart (Said answers) (word_at answers (get_or chosen i 0)) z) (sym (at j hj'))
      (elim (cases_order i j) [
        | inl e ↦ absurd (ne e)
        | inr (inl l) ↦ said (apart_sym (c.apart i j l hj'))
        | inr (inr l) ↦ said (c.apart j i l hi')
      ]))

  pub chosen_greedy : Greedy answers chosen
  chosen_greedy = record {
    inside = c.inside;
    apart = all_apart;
    full = c.full;
    few = λ k n b states right keys. omega (arith, apart_words_few (Said answers) k n b (map (word_at answers) chosen) states right keys all_apart, length-map chosen (word_at answers));
  }
