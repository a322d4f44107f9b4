-- How many binary digits a number has, and a bound in which digits occur.
use Rattle.std.specs.Prelude.{ℕ, zero, suc, ◌+◌, ◌*◌, ◌/◌, ◌^◌, ◌<◌, ◌≤◌}

-- How often a number can be halved, rounding down, before it comes to 0, if that is at most so many times.
abbrev pub bits_within : ℕ → ℕ → ℕ
bits_within zero x = 0
bits_within (suc f) zero = 0
bits_within (suc f) (suc x) = suc (bits_within f (suc x / 2))

-- How many binary digits a number has, 0 for 0.
abbrev pub bits : ℕ → ℕ
bits x = bits_within x x

-- The digits of a number below the m-th power of 2 are at most m.
abbrev pub Digits : Type 0
Digits = (m x : ℕ) → x < 2 ^ m → bits x ≤ m

-- n times the digits of x are at most n times n and x.
abbrev pub FewBits : Type 0
FewBits = (n x : ℕ) → n * bits x ≤ n * n + x

-- The answers for each cell of n rows, for r refutations, and for one bisection for each row, with l letters of refuting words.
abbrev pub fine_words : ℕ → ℕ → ℕ → ℕ → ℕ
fine_words k n r l = suc (n * k) * n + (r + n * bits l)
