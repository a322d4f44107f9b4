-- The pigeonhole principle for functions on the numbers below a bound.
use Rattle.std.proofs.Common.{◌≡◌, ℕ, zero, suc, ◌-◌, ◌<◌, ◌≤◌, min, inl, inr, zero-le, arith}
use Rattle.std.proofs.lemmas.Bool.{cases_eq}
use Rattle.machines.proofs.Search.{all_or}

-- A function takes the numbers below m to numbers below n.
abbrev pub Into : ℕ → ℕ → (ℕ → ℕ) → Type 0
Into m n f = (i : ℕ) → i < m → f i < n

-- A function takes no two numbers below m to one.
abbrev pub Distinct : ℕ → (ℕ → ℕ) → Type 0
Distinct m f = (i j : ℕ) → i < j → j < m → f i ≡ f j → ⊥

-- The numbers other than v, counted without it.
abbrev skip : ℕ → ℕ → ℕ
skip v x = x - min 1 (x - v)

-- A function that misses v goes into one number less.
missed : (m n v : ℕ) (f : ℕ → ℕ) → v < suc n → Into m (suc n) f → ((i : ℕ) → i < m → f i ≡ v → ⊥) → Into m n (λ i. skip v (f i))
missed m n v f h inside misses i l = omega (arith, inside i l, misses i l)

still_distinct : (m v : ℕ) (f : ℕ → ℕ) → Distinct m f → ((i : ℕ) → i < m → f i ≡ v → ⊥) → Distinct m (λ i. skip v (f i))
still_distinct m v f apart misses i j l h e =
    let i_less : i < m = omega arith in
    omega (arith, misses i i_less, misses j h, apart i j l h)

-- Distinct numbers below n are at most n.
pub pigeonhole : (m n : ℕ) (f : ℕ → ℕ) → Into m n f → Distinct m f → m ≤ n
pigeonhole zero n f inside apart = zero-le
pigeonhole (suc m) zero f inside apart = omega (arith, inside 0 (omega arith))
pigeonhole (suc m) (suc n) f inside apart =
    let misses : (i : ℕ) → i < m → f i ≡ f m → ⊥ = λ i h. apart i m h (omega arith) in
    let fewer : Into m (suc n) f = λ i h. inside i (omega arith) in
    let distinct : Distinct m f = λ i j l h. apart i j l (omega arith) in
    let less : m ≤ n = pigeonhole m n (λ i. skip (f m) (f i)) (missed m n (f m) f (inside m (omega arith)) fewer misses) (still_distinct m (f m) f distinct misses) in
    omega arith

-- As many distinct numbers below n as there are, or more: every number below n is one of them.
pub onto : (m n : ℕ) (f : ℕ → ℕ) → Into m n f → Distinct m f → n ≤ m → (y : ℕ) → y < n → (i : ℕ) × (i < m) × (f i ≡ y)
onto m zero f inside apart le y h = absurd (omega arith)
onto m (suc n) f inside apart le y h =
    elim (all_or m (λ i l. cases_eq (f i) y)) [
      | inl found ↦ found
      | inr misses ↦
          let few : m ≤ n = pigeonhole m n (λ i. skip y (f i)) (missed m n y f h inside misses) (still_distinct m y f apart misses) in
          absurd (omega arith)
    ]

-- More numbers below m than there are below n: two go to one.
pub two_alike : (m n : ℕ) (f : ℕ → ℕ) → Into m n f → n < m → (i j : ℕ) × (i < j) × (j < m) × (f i ≡ f j)
two_alike m n f inside more =
    elim (all_or m (λ j h. all_or j (λ i l. cases_eq (f i) (f j)))) [
      | inl found ↦ (found.2.0, found.0, found.2.1, found.1, found.2.2)
      | inr apart ↦ let few : m ≤ n = pigeonhole m n f inside (λ i j l h. apart j h i l) in absurd (omega arith)
    ]
