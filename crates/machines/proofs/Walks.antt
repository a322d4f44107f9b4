-- Walks through a table: over two words one after the other, and within its rows.
use Rattle.std.proofs.Common.{◌≡◌, ℕ, ◌<◌, ◌↔◌, [], ◌∷◌, ◌++◌, refl}
use Rattle.machines.specs.Words.{Word, Keys}
use Rattle.machines.specs.Tables.{Table, Sound, next, walk}

-- Two words one after the other are of keys if both are.
pub keys-append : (k : ℕ) (u v : Word) → Keys k (u ++ v) ↔ (Keys k u × Keys k v)
keys-append k [] v = (λ h. (tt, h), λ h. h.1)
keys-append k (x ∷ u) v = (λ h. let parts = (keys-append k u v).0 h.1 in ((h.0, parts.0), parts.1), λ h. (h.0.0, (keys-append k u v).1 (h.0.1, h.1)))

pub walk-append : (k : ℕ) (t : Table) (i : ℕ) (u v : Word) → walk k t i (u ++ v) ≡ walk k t (walk k t i u) v
walk-append k t i [] v = refl
walk-append k t i (x ∷ u) v = walk-append k t (next k t i x) u v

-- A word of keys leads from a row to a row.
pub walk_inside : {k n : ℕ} {t : Table} → Sound k n t → (i : ℕ) (w : Word) → i < n → Keys k w → walk k t i w < n
walk_inside s i [] h keys = h
walk_inside {k} {t} s i (x ∷ w) h keys = walk_inside s (next k t i x) w (s.inside i x h keys.0) keys.1

pub walk_first : {k n : ℕ} {t : Table} → Sound k n t → (w : Word) → Keys k w → walk k t 0 w < n
walk_first s w = walk_inside s 0 w s.some_rows
