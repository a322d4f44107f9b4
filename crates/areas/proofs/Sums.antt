-- The words of all areas before the letters, summed up and bounded.
use Rattle.std.proofs.Common.{◌≡◌, ℕ, ◌+◌, ◌-◌, ◌*◌, ◌<◌, ◌≤◌, sym, ap, ◌∙◌, ⊎_elim, mul_assoc, mul_comm, add-mul, mul-add, arith}
use Rattle.std.proofs.lemmas.Nat.{mul-le}
use Rattle.std.proofs.lemmas.Bool.{cases_lt}
use Rattle.areas.specs.declared.area.Area.TheVariants.{Letters}
use Rattle.areas.specs.Layout.{sized, base_of, size_of}
use Rattle.areas.specs.Room.{core_words, LayoutFits}

-- In words of n, n * n, n * k and n * n * k.
front_sum : (k n m : ℕ) → base_of (sized k n m) Letters ≡ 65 + 535 * n + n * n + n * k + 9 * (n * k * n)
unfolding base_of
front_sum k n m = omega (arith, add-mul 1 (n * k) n)

-- In the same words.
grid_sum : (k n : ℕ) → (k + 1) * (n * (n + 2)) ≡ n * k * n + 2 * (n * k) + n * n + 2 * n
grid_sum k n =
    let cube : k * (n * n) ≡ n * k * n = sym (mul_assoc k n n) ∙ ap (λ (z : ℕ). z * n) (mul_comm k n) in
    let line : k * (n * 2) ≡ n * k * 2 = sym (mul_assoc k n 2) ∙ ap (λ (z : ℕ). z * 2) (mul_comm k n) in
    let wide : k * (n * (n + 2)) ≡ k * (n * n) + k * (n * 2) = ap (λ (z : ℕ). k * z) (mul-add n n 2) ∙ mul-add k (n * n) (n * 2) in
    omega (arith, add-mul k 1 (n * (n + 2)), mul-add n n 2, cube, line, wide)

above : (n m : ℕ) → n ≡ 4 + m → 8 * n ≤ n * n + 16
above n m e = omega (arith, ap (λ (z : ℕ). n * z) e ∙ mul-add n 4 m, mul-le 4 m n m (omega arith) (omega arith))

-- A square lies above its tangent.
square_above : (n : ℕ) → 8 * n ≤ n * n + 16
square_above n = ⊎_elim
    (λ (h : n < 3). omega arith)
    (λ (h : 3 ≤ n). ⊎_elim
    (λ (l : n < 4). omega (arith, mul-le 3 3 n n h h))
    (λ (l : 4 ≤ n). above n (n - 4) (omega arith))
    (cases_lt n 4))
    (cases_lt n 3)

front_fits : (k n m : ℕ) → 1 ≤ k → base_of (sized k n m) Letters ≤ core_words k n 0
front_fits k n m h =
    omega (arith, front_sum k n m, grid_sum k n, square_above n, mul-le n 1 n k (omega arith) h, mul-le (n * 1) n (n * k) n (mul-le n 1 n k (omega arith) h) (omega arith))

letters_fit : (k n l m : ℕ) → 1 ≤ k → core_words k n l ≤ m → l ≤ size_of (sized k n m) Letters
unfolding size_of
letters_fit k n l m h s = omega (arith, front_fits k n m h)

pub layout_fits : LayoutFits
layout_fits = record {
  front = λ k n m h a b c. front_fits k n m h;
  limits = λ k n l m h a b c s. record { some_keys = h; few_keys = a; some_states = b; few_states = c; fits = omega (arith, front_fits k n m h, s) };
  letters = λ k n l m h a b c s. letters_fit k n l m h s;
  left = λ k n l. omega arith;
}
