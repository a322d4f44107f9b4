-- Lists of cells, and lists of answers that are turned round.
use Rattle.std.proofs.Common.{◌≡◌, ℕ, zero, suc, ◌<◌, ◌≤◌, ◌⊎◌, List, [], ◌∷◌, ◌++◌, map, length, get_or, set, refl, ap, inl, inr, suc-le-suc, zero-le, le_of_suc-le-suc, arith, length-append}
use Rattle.std.proofs.lemmas.List.{length_push}
use Rattle.std.proofs.lemmas.Bool.{cases_lt}
use Rattle.machines.specs.Answers.{Told, In}
use Rattle.machines.specs.Answers.In.{here, there}
use Rattle.model.specs.Observations.{nonzero, newest_first}

pub nonzero_few : (l : List ℕ) → nonzero l ≤ length l
nonzero_few [] = zero-le
nonzero_few (zero ∷ l) = omega (arith, nonzero_few l)
nonzero_few (suc x ∷ l) = suc-le-suc (nonzero_few l)

-- A list with a 0 has fewer numbers that are not 0 than places.
pub nonzero_gap : (l : List ℕ) (i : ℕ) → i < length l → get_or l i 0 ≡ 0 → nonzero l < length l
nonzero_gap [] i h e = absurd (omega arith)
nonzero_gap (zero ∷ l) i h e = suc-le-suc (nonzero_few l)
nonzero_gap (suc x ∷ l) zero h e = absurd (omega arith)
nonzero_gap (suc x ∷ l) (suc i) h e = suc-le-suc (nonzero_gap l i (le_of_suc-le-suc h) e)

-- A 0 written over makes one number more that is not 0.
pub nonzero_set : (l : List ℕ) (i c : ℕ) → i < length l → get_or l i 0 ≡ 0 → nonzero (set l i (suc c)) ≡ suc (nonzero l)
nonzero_set [] i c h e = absurd (omega arith)
nonzero_set (zero ∷ l) zero c h e = refl
nonzero_set (suc x ∷ l) zero c h e = absurd (omega arith)
nonzero_set (zero ∷ l) (suc i) c h e = nonzero_set l i c (le_of_suc-le-suc h) e
nonzero_set (suc x ∷ l) (suc i) c h e = ap suc (nonzero_set l i c (le_of_suc-le-suc h) e)

pub newest_push : (l : List Told) (x : Told) → newest_first (l ++ (x ∷ [])) ≡ x ∷ newest_first l
newest_push [] x = refl
newest_push (y ∷ l) x = ap (λ (z : List Told). z ++ (y ∷ [])) (newest_push l x)

pub length-newest : (l : List Told) → length (newest_first l) ≡ length l
length-newest [] = refl
length-newest (x ∷ l) = simp length-append (omega (arith, length-newest l))

in_left : {x : Told} (l m : List Told) → In x l → In x (l ++ m)
in_left [] m h = elim h [ ]
in_left (y ∷ l) m here = here
in_left (y ∷ l) m (there h) = there (in_left l m h)

in_right : {x : Told} (l m : List Told) → In x m → In x (l ++ m)
in_right [] m h = h
in_right (y ∷ l) m h = there (in_right l m h)

in_either : {x : Told} (l m : List Told) → In x (l ++ m) → In x l ⊎ In x m
in_either [] m h = inr h
in_either (y ∷ l) m here = inl here
in_either (y ∷ l) m (there h) = elim (in_either l m h) [ inl a ↦ inl (there a) | inr a ↦ inr a ]

-- What stands at a place of a list is in it turned round.
pub in_newest : (l : List Told) (c : ℕ) (d : Told) → c < length l → In (get_or l c d) (newest_first l)
in_newest [] c d h = absurd (omega arith)
in_newest (x ∷ l) zero d h = in_right (newest_first l) (x ∷ []) here
in_newest (x ∷ l) (suc c) d h = in_left (newest_first l) (x ∷ []) (in_newest l c d (le_of_suc-le-suc h))

in_only : {x y : Told} → In x (y ∷ []) → y ≡ x
in_only here = refl
in_only (there h) = elim h [ ]

-- What is in a list turned round stands at a place.
pub newest_in : {x : Told} (l : List Told) (d : Told) → In x (newest_first l) → (c : ℕ) × (c < length l) × (get_or l c d ≡ x)
newest_in [] d h = elim h [ ]
newest_in (y ∷ l) d h =
    elim (in_either (newest_first l) (y ∷ []) h) [
      | inl a ↦ let p = newest_in l d a in (suc p.0, suc-le-suc p.1, p.2)
      | inr a ↦ (0, suc-le-suc zero-le, in_only a)
    ]

-- Two functions that agree on a list's elements make one list of it.
pub map_same : {A B : Type 0} (f g : A → B) (l : List A) (d : A) → ((i : ℕ) → i < length l → f (get_or l i d) ≡ g (get_or l i d)) → map f l ≡ map g l
map_same f g [] d h = refl
map_same f g (x ∷ l) d h = λ i. h 0 (suc-le-suc zero-le) i ∷ map_same f g l d (λ j p. h (suc j) (suc-le-suc p)) i

-- A place of a list with one element more is one of the list, or the last.
pub push_place : {A : Type 0} (l : List A) (x : A) (i : ℕ) → i < length (l ++ (x ∷ [])) → (i < length l) ⊎ (i ≡ length l)
push_place l x i h = elim (cases_lt i (length l)) [ inl p ↦ inl p | inr p ↦ inr (omega (arith, length_push l x)) ]
