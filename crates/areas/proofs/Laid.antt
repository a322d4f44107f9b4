-- A list with a word's letters from a place on: how it is written, and what it holds.
use Rattle.std.proofs.Common.{◌≡◌, ℕ, ◌+◌, ◌-◌, ◌<◌, ◌≤◌, min, List, [], ◌∷◌, ◌++◌, length, get_or, take, drop, set, sym, ap, ◌∙◌, ⊎_elim, arith}
use Rattle.std.proofs.lemmas.Bool.{cases_lt}
use Rattle.std.proofs.lemmas.List.{append-nil, append_assoc, length-append, length-take, length-take-le, length-drop, take_all, take_more, take-append-le, drop_all, drop_more, drop-drop, set_at}
use Rattle.areas.specs.Bulk.{laid}

-- One letter more.
pub laid_more : (xs ys word : List ℕ) (i : ℕ) → i < length xs → i < length word → ys ≡ take i word ++ drop i xs → set ys i (get_or word i 0) ≡ take (i + 1) word ++ drop (i + 1) xs
laid_more xs ys word i h l e =
    ap (λ (z : List ℕ). set z i (get_or word i 0)) (e ∙ ap (λ (z : List ℕ). take i word ++ z) (drop_more xs i 0 h))
    ∙ set_at (take i word) (get_or xs i 0) (drop (i + 1) xs) (get_or word i 0) i (length-take-le i word (omega arith))
    ∙ sym (append_assoc (take i word) (get_or word i 0 ∷ []) (drop (i + 1) xs))
    ∙ ap (λ (z : List ℕ). z ++ drop (i + 1) xs) (sym (take_more word i 0 l))

-- All letters that fit.
pub laid_all : (xs word : List ℕ) (m : ℕ) → m ≡ min (length xs) (length word) → take m word ++ drop m xs ≡ laid xs 0 word
unfolding laid
laid_all xs word m e = ⊎_elim
    (λ (h : length xs < length word).
    let p : m ≡ length xs - 0 = omega arith in
    let q : drop m xs ≡ drop (0 + length word) xs = drop_all m xs (omega arith) ∙ sym (drop_all (0 + length word) xs (omega arith)) in
    ap (λ (z : List ℕ). take m word ++ z) q ∙ ap (λ (n : ℕ). take n word ++ drop (0 + length word) xs) p)
    (λ (h : length word ≤ length xs).
    let p : m ≡ 0 + length word = omega arith in
    let q : take m word ≡ take (length xs - 0) word = take_all m word (omega arith) ∙ sym (take_all (length xs - 0) word (omega arith)) in
    ap (λ (z : List ℕ). z ++ drop m xs) q ∙ ap (λ (n : ℕ). take (length xs - 0) word ++ drop n xs) p)
    (cases_lt (length xs) (length word))

-- Laying letters changes no length.
pub length-laid : (xs : List ℕ) (at : ℕ) (word : List ℕ) → length (laid xs at word) ≡ length xs
unfolding laid
length-laid xs at word = simp (length-append, length-take, length-drop) (omega arith)

-- Past the end nothing is laid.
pub laid_past : (xs : List ℕ) (at : ℕ) (word : List ℕ) → length xs ≤ at → laid xs at word ≡ xs
unfolding laid
laid_past xs at word h =
    let n : length xs - at ≡ 0 = omega arith in
    let q : drop (at + length word) xs ≡ [] = drop_all (at + length word) xs (omega arith) in
    ap (λ (j : ℕ). take at xs ++ (take j word ++ drop (at + length word) xs)) n ∙ ap (λ (z : List ℕ). take at xs ++ z) q ∙ append-nil (take at xs) ∙ take_all at xs h

-- A word that fits is laid whole.
pub laid_within : (xs : List ℕ) (at : ℕ) (word : List ℕ) → at + length word ≤ length xs → laid xs at word ≡ take at xs ++ (word ++ drop (at + length word) xs)
unfolding laid
laid_within xs at word h = ap (λ (z : List ℕ). take at xs ++ (z ++ drop (at + length word) xs)) (take_all (length xs - at) word (omega arith))

-- What stands before a word's end, once it is laid.
pub take_laid : (xs : List ℕ) (at : ℕ) (word : List ℕ) → at + length word ≤ length xs → take (at + length word) (laid xs at word) ≡ take at xs ++ word
take_laid xs at word h =
    let back = drop (at + length word) xs in
    let long : length (take at xs ++ word) ≡ at + length word = length-append (take at xs) word ∙ ap (λ (n : ℕ). n + length word) (length-take-le at xs (omega arith)) in
    ap (take (at + length word)) (laid_within xs at word h ∙ sym (append_assoc (take at xs) word back))
    ∙ take-append-le (at + length word) (take at xs ++ word) back (omega (arith, long))
    ∙ take_all (at + length word) (take at xs ++ word) (omega (arith, long))

-- Letters laid into the end of a list are laid into the list.
pub laid_end : (xs : List ℕ) (at k : ℕ) (word : List ℕ) → at + k ≡ length xs → take at xs ++ (laid (drop at xs) 0 word ++ drop k (drop at xs)) ≡ laid xs at word
unfolding laid
laid_end xs at k word h =
    let n : length (drop at xs) - 0 ≡ length xs - at = omega (arith, length-drop at xs) in
    let back : drop (0 + length word) (drop at xs) ≡ drop (at + length word) xs = drop-drop (0 + length word) at xs ∙ ap (λ (j : ℕ). drop j xs) (omega arith) in
    let none : drop k (drop at xs) ≡ [] = drop_all k (drop at xs) (omega (arith, length-drop at xs)) in
    ap (λ (z : List ℕ). take at xs ++ ((take (length (drop at xs) - 0) word ++ drop (0 + length word) (drop at xs)) ++ z)) none
    ∙ ap (λ (z : List ℕ). take at xs ++ z) (append-nil (take (length (drop at xs) - 0) word ++ drop (0 + length word) (drop at xs)))
    ∙ ap (λ (z : List ℕ). take at xs ++ (take (length (drop at xs) - 0) word ++ z)) back
    ∙ ap (λ (j : ℕ). take at xs ++ (take j word ++ drop (at + length word) xs)) n
