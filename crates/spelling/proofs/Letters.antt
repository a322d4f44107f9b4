-- The letters of a word given by its parts.
use Rattle.std.proofs.Common.{◌≡◌, ℕ, ◌+◌, ◌<◌, List, [], ◌∷◌, ◌++◌, length, get_or, take, drop, set, sym, refl, ap, ◌∙◌, arith, length-append}
use Rattle.std.proofs.lemmas.List.{get_or_append_left, take_more, take_more_set, take_all, take_at, drop_at}
use Rattle.std.specs.Prelude.{Option, Some, None}
use Rattle.spelling.specs.Spelt.{key_first, Written}

pub parts_long : (f : List ℕ) (k : Option ℕ) (r : List ℕ) → length f + length (key_first k []) + length r ≡ length (f ++ key_first k r)
parts_long f None r = omega (arith, length-append f r)
parts_long f (Some x) r = omega (arith, length-append f (x ∷ r))

pub front_letter : (f : List ℕ) (k : Option ℕ) (r : List ℕ) (i : ℕ) → i < length f → get_or f i 0 ≡ get_or (f ++ key_first k r) i 0
front_letter f k r i h = sym (get_or_append_left f (key_first k r) 0 i h)

-- One letter more of a word that is written over a part of a list.
pub write_more : (w part : List ℕ) (i x : ℕ) → i < length w → i < length part → x ≡ get_or w i 0 → take i part ≡ take i w → take (i + 1) (set part i x) ≡ take (i + 1) w
write_more w part i x hw hp e o =
    take_more_set part i x hp ∙ ap (λ z. z ++ (x ∷ [])) o ∙ ap (λ z. take i w ++ (z ∷ [])) e ∙ sym (take_more w i 0 hw)

-- A word that is written whole.
pub write_all : (w b part : List ℕ) (i n : ℕ) → n ≡ length w → i ≡ length w → length part ≡ length w → take i part ≡ take i w → Written w b (part ++ drop n b)
write_all w b part i n en ei long o =
    let whole : part ≡ w = sym (take_all i part (omega (arith, ei, long))) ∙ o ∙ take_all i w (omega (arith, ei)) in
    let out : part ++ drop n b ≡ w ++ drop (length w) b = ap (λ z. z ++ drop n b) whole ∙ ap (λ z. w ++ drop z b) en in
    record { first = ap (take (length w)) out ∙ take_at w (drop (length w) b) (length w) refl; behind = ap (drop (length w)) out ∙ drop_at w (drop (length w) b) (length w) refl }
