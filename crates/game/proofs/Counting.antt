-- How many words a game has told of, and that they are few.
use Rattle.std.proofs.Common.{◌≡◌, ℕ, suc, ◌+◌, ◌*◌, ◌^◌, ◌<◌, ◌≤◌, List, [], ◌∷◌, length, sym, refl, ap, ◌∙◌, mul-le-mul_left, one-add, arith}
use Rattle.std.proofs.lemmas.Nat.{mul-le}
use Rattle.std.proofs.lemmas.List.{length_push}
use Rattle.areas.specs.Layout.{answer_count}
use Rattle.model.specs.Bits.{bits, fine_words}
use Rattle.model.proofs.Digits.{digits}
use Rattle.promises.specs.declared.Given.{Given}
use Rattle.promises.specs.declared.Given.TheVariants.{Taken, NotAsked, NoRefute, Full, Unstored}
use Rattle.promises.specs.Calls.{Call, again, stepped, answered, refuting, one, refutations}
use Rattle.game.specs.Counterexamples.{Refutation}
use Rattle.game.specs.Courses.{with_refutation, refuted_in}

one_more : (r : Given) (x : Refutation) (xs : List Refutation) → length (with_refutation r x xs) ≡ one r + length xs
one_more Taken x xs = omega (arith, length_push xs x)
one_more NotAsked x xs = omega arith
one_more NoRefute x xs = omega arith
one_more Full x xs = omega arith
one_more Unstored x xs = omega arith

-- As many tables were refuted as refutations were taken.
pub refuted_count : (k n : ℕ) (cs : List Call) → length (refuted_in k n cs) ≡ refutations cs
refuted_count k n [] = refl
refuted_count k n (again k' n' room ∷ cs) = refuted_count k n cs
refuted_count k n (stepped o o' r ∷ cs) = refuted_count k n cs
refuted_count k n (answered a r ∷ cs) = refuted_count k n cs
refuted_count k n (refuting u a r ∷ cs) = one_more r _ (refuted_in k n cs) ∙ ap (λ (z : ℕ). one r + z) (refuted_count k n cs)

-- As many words as the finer bound allows are as many as a store has records for.
pub fine_fits : (k n l : ℕ) → l < 2 ^ 64 → fine_words k n n l ≤ answer_count k n
fine_fits k n l h =
    let cells : suc (n * k) * n ≡ (1 + n * k) * n = ap (λ (z : ℕ). z * n) (sym (one-add (n * k))) in
    omega (arith, cells, mul-le-mul_left {m = bits l} {n = 64} n (digits 64 l h))

-- These are few.
pub answers_few : (k n : ℕ) → k ≤ 64 → n ≤ 1024 → answer_count k n ≤ 67176448
answers_few k n some most =
    let edges : n * k ≤ 1024 * 64 = mul-le n k 1024 64 most some in
    let cells : (1 + n * k) * n ≤ 65537 * 1024 = mul-le (1 + n * k) n 65537 1024 (omega (arith, edges)) most in
    omega (arith, cells, most)
