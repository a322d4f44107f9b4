-- Numbers of pairs: a row and a column from one number, and back.
use Rattle.std.proofs.Common.{◌≡◌, ℕ, ◌+◌, ◌*◌, ◌/◌, ◌%◌, ◌<◌, ◌≤◌, sym, subst, mod-lt, div-lt_iff_lt-mul, mul-le-mul, arith}
use Rattle.std.proofs.lemmas.Nat.{div-mul-add, mod-mul-add}

pub row_below : (e k rows : ℕ) → 1 ≤ k → e < rows * k → e / k < rows
row_below e k rows some h = (div-lt_iff_lt-mul {k = k} {x = e} {y = rows} (omega (arith, some))).1 h

pub column_below : (e k : ℕ) → 1 ≤ k → e % k < k
column_below e k some = mod-lt e (omega (arith, some))

-- What holds of a row and a column holds of those that their number gives.
pub at_pair : (P : ℕ → ℕ → Type 0) (e rows j : ℕ) → j < rows → P e j → P ((e * rows + j) / rows) ((e * rows + j) % rows)
at_pair P e rows j h p = subst (λ z. P z ((e * rows + j) % rows)) (sym (div-mul-add e rows j h)) (subst (P e) (sym (mod-mul-add e rows j h)) p)

pub from_pair : (P : ℕ → ℕ → Type 0) (e rows j : ℕ) → j < rows → P ((e * rows + j) / rows) ((e * rows + j) % rows) → P e j
from_pair P e rows j h p = subst (λ z. P z j) (div-mul-add e rows j h) (subst (P ((e * rows + j) / rows)) (mod-mul-add e rows j h) p)

-- A table has so few rows and keys that the numbers of edges with rows fit.
pub few_places : (e k rows : ℕ) → rows ≤ 1048576 → k ≤ 64 → e < rows * k → e * rows ≤ 70368744177664
few_places e k rows few keys h =
    let edges : rows * k ≤ 1048576 * 64 = mul-le-mul few keys in
    let most : e ≤ 67108864 = omega (arith, edges, h) in
    let places : e * rows ≤ 67108864 * 1048576 = mul-le-mul most few in
    omega (arith, places)

pub few_pairs : (i rows : ℕ) → rows ≤ 1048576 → i < rows → i * rows ≤ 1099511627776
few_pairs i rows few h =
    let row : i ≤ 1048576 = omega (arith, few, h) in
    let places : i * rows ≤ 1048576 * 1048576 = mul-le-mul row few in
    omega (arith, places)

-- What holds of a row, a key and another row holds of those that their number gives.
module _ (P : ℕ → ℕ → ℕ → Type 0) (i k x rows j : ℕ) (key : x < k) (other : j < rows) where
  edge : (((i * k + x) * rows + j) / rows ≡ i * k + x) × (((i * k + x) * rows + j) % rows ≡ j) × ((i * k + x) / k ≡ i) × ((i * k + x) % k ≡ x)
  edge = (div-mul-add (i * k + x) rows j other, mod-mul-add (i * k + x) rows j other, div-mul-add i k x key, mod-mul-add i k x key)

  pub at_edge : P i x j → P ((((i * k + x) * rows + j) / rows) / k) ((((i * k + x) * rows + j) / rows) % k) (((i * k + x) * rows + j) % rows)
  at_edge p = rw (edge.0, edge.1, edge.2, edge.3) p

  pub from_edge : P ((((i * k + x) * rows + j) / rows) / k) ((((i * k + x) * rows + j) / rows) % k) (((i * k + x) * rows + j) % rows) → P i x j
  from_edge p = rw (edge.0, edge.1, edge.2, edge.3) at p
