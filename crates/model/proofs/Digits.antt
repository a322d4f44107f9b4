-- Binary digits: their number grows with a number, falls when it is halved, and is small.
use Rattle.std.proofs.Common.{◌≡◌, ℕ, zero, suc, ◌+◌, ◌-◌, ◌*◌, ◌/◌, ◌^◌, ◌<◌, ◌≤◌, refl, ap, inl, inr, suc-le-suc, zero-le, mul-le-mul, mul-le-mul_left, mul-add, arith}
use native.Mathlib.Nat.{two-pow-succ}
use Rattle.std.proofs.lemmas.Bool.{cases_lt}
use Rattle.std.proofs.lemmas.Nat.{pow-add}
use Rattle.model.specs.Bits.{bits_within, bits, Digits, FewBits}
use Rattle.model.specs.States.{Fits}

-- More steps than the number has change nothing.
bits_enough : (f g x : ℕ) → x ≤ f → x ≤ g → bits_within f x ≡ bits_within g x
bits_enough zero zero x h l = refl
bits_enough zero (suc g) zero h l = refl
bits_enough zero (suc g) (suc x) h l = absurd (omega arith)
bits_enough (suc f) zero zero h l = refl
bits_enough (suc f) zero (suc x) h l = absurd (omega arith)
bits_enough (suc f) (suc g) zero h l = refl
bits_enough (suc f) (suc g) (suc x) h l = ap suc (bits_enough f g (suc x / 2) (omega arith) (omega arith))

pub bits_half : (x : ℕ) → bits (suc x) ≡ suc (bits (suc x / 2))
bits_half x = ap suc (bits_enough x (suc x / 2) (suc x / 2) (omega arith) (omega arith))

within_grows : (f x y : ℕ) → x ≤ y → bits_within f x ≤ bits_within f y
within_grows zero x y h = zero-le
within_grows (suc f) zero y h = zero-le
within_grows (suc f) (suc x) zero h = absurd (omega arith)
within_grows (suc f) (suc x) (suc y) h = suc-le-suc (within_grows f (suc x / 2) (suc y / 2) (omega arith))

pub bits_grow : (x y : ℕ) → x ≤ y → bits x ≤ bits y
bits_grow x y h = omega (arith, bits_enough x y x (omega arith) h, within_grows y x y h)

-- A number of at most half has fewer digits.
pub bits_fall : (x y : ℕ) → 0 < x → y ≤ x / 2 → bits y < bits x
bits_fall zero y p h = absurd (omega arith)
bits_fall (suc x) y p h = omega (arith, bits_half x, bits_grow y (suc x / 2) h)

pub digits : Digits
digits zero zero h = zero-le
digits zero (suc x) h = absurd (omega arith)
digits (suc m) zero h = zero-le
digits (suc m) (suc x) h = omega (arith, bits_half x, digits m (suc x / 2) (omega (arith, two-pow-succ m)))

below_pow : (d : ℕ) → suc d ≤ 2 ^ d
below_pow zero = omega arith
below_pow (suc d) = omega (arith, two-pow-succ d, below_pow d)

-- A number with more than m digits is at least the m-th power of 2.
pub digits_back : (m x : ℕ) → m < bits x → 2 ^ m ≤ x
digits_back m x h = elim (cases_lt x (2 ^ m)) [ inl l ↦ absurd (omega (arith, digits m x l)) | inr l ↦ l ]

few_many : (n d x : ℕ) → n + d < bits x → n * suc d ≤ x
few_many n d x h = omega (arith, mul-le-mul {n₁ = n} {m₁ = suc d} {n₂ = 2 ^ n} {m₂ = 2 ^ d} (omega (arith, below_pow n)) (below_pow d), pow-add 2 n d, digits_back (n + d) x h)

pub few_bits : FewBits
few_bits n x =
    elim (cases_lt n (bits x)) [
      | inl l ↦
          let d = bits x - suc n in
          let e : bits x ≡ n + suc d = omega arith in
          omega (arith, ap (λ (y : ℕ). n * y) e, mul-add n n (suc d), few_many n d x (omega arith))
      | inr l ↦ omega (arith, mul-le-mul_left {m = bits x} {n = n} n l)
    ]

pub fits : Fits
fits k n l h = omega (arith, few_bits n l, mul-le-mul_left {m = 1} {n = k} n h)
