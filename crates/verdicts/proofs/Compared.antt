-- What comparing slices says of words.
use Rattle.std.proofs.Common.{◌≡◌, ℕ, ◌<◌, min, [], ◌∷◌, ◌++◌, length, take, drop, Ordering, Less, Equal, Greater, sym, refl, ap, ◌∙◌, subst, inl, inr, arith}
use Rattle.std.specs.Cmp.{ranks}
use Rattle.std.specs.Cmp.Lexicographic.{slice_cmp}
use Rattle.std.specs.Ordering.{MatchOrdering, nat_cmp, ordering_then}
use Rattle.std.proofs.lemmas.List.{take_all, drop_all}
use Rattle.std.proofs.lemmas.Bool.{cases_lt}
use Rattle.machines.specs.Words.{Word, Before}
use Rattle.machines.proofs.Alphabet.{before_irrefl, before_asym}

-- How two words stand in alphabetical order.
abbrev pub Compares : Word → Word → Ordering → Type 0
Compares u v o = MatchOrdering o (Before u v) (u ≡ v) (Before v u)

heads : (x y : ℕ) (u v : Word) (o r : Ordering) → MatchOrdering o (x < y) (x ≡ y) (y < x) → Compares u v r → Compares (x ∷ u) (y ∷ v) (ordering_then o r)
heads x y u v Less r h k = inl h
heads x y u v Equal Less h k = inr (h, k)
heads x y u v Equal Equal h k = ap (λ (z : ℕ). z ∷ u) h ∙ ap (λ (z : Word). y ∷ z) k
heads x y u v Equal Greater h k = inr (sym h, k)
heads x y u v Greater r h k = inl h

-- The library's order of lists is that of words.
pub ranked_words : (u v : Word) → Compares u v (slice_cmp nat_cmp u v)
ranked_words [] [] = refl
ranked_words [] (y ∷ v) = tt
ranked_words (x ∷ u) [] = tt
ranked_words (x ∷ u) (y ∷ v) = heads x y u v (nat_cmp x y) (slice_cmp nat_cmp u v) (ranks x y) (ranked_words u v)

less_by : (u v : Word) (o : Ordering) → Compares u v o → Before u v → o ≡ Less
less_by u v Less c h = refl
less_by u v Equal c h = absurd (before_irrefl v (subst (λ z. Before z v) c h))
less_by u v Greater c h = absurd (before_asym u v h c)

pub before_less : (u v : Word) → Before u v → slice_cmp nat_cmp u v ≡ Less
before_less u v = less_by u v (slice_cmp nat_cmp u v) (ranked_words u v)

module _ (u v : Word) where
  pub less_before : slice_cmp nat_cmp u v ≡ Less → Before u v
  less_before e = subst (Compares u v) e (ranked_words u v)

  pub equal_same : slice_cmp nat_cmp u v ≡ Equal → u ≡ v
  equal_same e = subst (Compares u v) e (ranked_words u v)

  pub greater_after : slice_cmp nat_cmp u v ≡ Greater → Before v u
  greater_after e = subst (Compares u v) e (ranked_words u v)

then_then : (o p r : Ordering) → ordering_then (ordering_then o p) r ≡ ordering_then o (ordering_then p r)
then_then Less p r = refl
then_then Equal p r = refl
then_then Greater p r = refl

-- A word is compared with two others, one behind the other, by its front and what is left.
cut_cmp : (w u x : Word) → ordering_then (slice_cmp nat_cmp (take (length u) w) u) (slice_cmp nat_cmp (drop (length u) w) x) ≡ slice_cmp nat_cmp w (u ++ x)
cut_cmp w [] x = refl
cut_cmp [] (y ∷ u) x = refl
cut_cmp (z ∷ w) (y ∷ u) x = then_then (nat_cmp z y) (slice_cmp nat_cmp (take (length u) w) u) (slice_cmp nat_cmp (drop (length u) w) x) ∙ ap (ordering_then (nat_cmp z y)) (cut_cmp w u x)

cut_take : (w u : Word) → take (min (length w) (length u)) w ≡ take (length u) w
cut_take w u = elim (cases_lt (length w) (length u)) [
  | inl l ↦ take_all (min (length w) (length u)) w (omega arith) ∙ sym (take_all (length u) w (omega arith))
  | inr l ↦ ap (λ (n : ℕ). take n w) (omega arith)
]

cut_drop : (w u : Word) → drop (min (length w) (length u)) w ≡ drop (length u) w
cut_drop w u = elim (cases_lt (length w) (length u)) [
  | inl l ↦ drop_all (min (length w) (length u)) w (omega arith) ∙ sym (drop_all (length u) w (omega arith))
  | inr l ↦ ap (λ (n : ℕ). drop n w) (omega arith)
]

then_is : (o p r : Ordering) → MatchOrdering o (r ≡ Less) (r ≡ p) (r ≡ Greater) → r ≡ ordering_then o p
then_is Less p r h = h
then_is Equal p r h = h
then_is Greater p r h = h

pub cut_compares : (w u x front rest : Word) (n : ℕ) (o r : Ordering) → n ≡ min (length w) (length u) → front ≡ take n w → rest ≡ drop n w → o ≡ slice_cmp nat_cmp front u
    → MatchOrdering o (r ≡ Less) (r ≡ slice_cmp nat_cmp rest x) (r ≡ Greater) → r ≡ slice_cmp nat_cmp w (u ++ x)
cut_compares w u x front rest n o r size f d e h =
    let front_is : front ≡ take (length u) w = f ∙ (ap (λ (m : ℕ). take m w) size ∙ cut_take w u) in
    let rest_is : rest ≡ drop (length u) w = d ∙ (ap (λ (m : ℕ). drop m w) size ∙ cut_drop w u) in
    then_is o (slice_cmp nat_cmp rest x) r h
    ∙ (ap (λ (p : Ordering). ordering_then p (slice_cmp nat_cmp rest x)) (e ∙ ap (λ (z : Word). slice_cmp nat_cmp z u) front_is)
    ∙ (ap (λ (z : Word). ordering_then (slice_cmp nat_cmp (take (length u) w) u) (slice_cmp nat_cmp z x)) rest_is ∙ cut_cmp w u x))

pub unequal_is : (o p : Ordering) → (o ≡ Equal → ⊥) → MatchOrdering o (o ≡ Less) (o ≡ p) (o ≡ Greater)
unequal_is Less p h = refl
unequal_is Equal p h = absurd (h refl)
unequal_is Greater p h = refl
