-- How long a memory has to be for so many letters.
use Rattle.std.specs.Prelude.{◌≡◌, ℕ, ◌+◌, ◌*◌, ◌≤◌}
use Rattle.areas.specs.declared.area.Area.TheVariants.{Letters}
use Rattle.areas.specs.Layout.{sized, base_of, size_of, Limits}

-- The words that suffice for k keys, n states and l letters.
abbrev pub core_words : ℕ → ℕ → ℕ → ℕ
core_words k n l = 1024 + (12 * l + 32 * ((k + 1) * (n * (n + 2))))

-- The words that a caller is asked for.
abbrev pub store_words : ℕ → ℕ → ℕ → ℕ
store_words k n l = 4096 + (16 * l + 64 * ((k + 1) * (n * (n + 2))))

-- The areas before the letters fit the words that suffice without letters; a memory of at least the words for l letters keeps the limits and has room for l letters; and of what a caller is asked for much is left.
pub record LayoutFits : Type 0 where
  pub front : (k n m : ℕ) → 1 ≤ k → k ≤ 64 → 1 ≤ n → n ≤ 1024 → base_of (sized k n m) Letters ≤ core_words k n 0
  pub limits : (k n l m : ℕ) → 1 ≤ k → k ≤ 64 → 1 ≤ n → n ≤ 1024 → core_words k n l ≤ m → Limits (sized k n m)
  pub letters : (k n l m : ℕ) → 1 ≤ k → k ≤ 64 → 1 ≤ n → n ≤ 1024 → core_words k n l ≤ m → l ≤ size_of (sized k n m) Letters
  pub left : (k n l : ℕ) → store_words k n l ≡ core_words k n l + (3072 + (4 * l + 32 * ((k + 1) * (n * (n + 2)))))
