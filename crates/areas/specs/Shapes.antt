-- How a shape is read, and when there is one.
use Rattle.std.specs.Prelude.{◌≡◌, ℕ, ◌≤◌, Some, None, Option}
use Rattle.areas.specs.declared.shape.Shape.{Shape}
use Rattle.areas.specs.declared.shape.Counts.{Counts}
use Rattle.areas.specs.Layout.{Dims, Limits}

-- What a shape's memory is laid out for.
abbrev pub dims : Shape → Dims
dims s = record { keys = s.counts.keys; most = s.counts.most; length = s.length }

-- The shape of these numbers; none where they break the limits.
abbrev pub Shaped : Dims → Option Shape → Type 0
Shaped d None = Limits d → ⊥
Shaped d (Some s) = Limits d × (dims s ≡ d)

-- 1 to 64 keys, and 1 to 1,024 states.
pub record Within (k n : ℕ) : Type 0 where
  pub some_keys : 1 ≤ k
  pub few_keys : k ≤ 64
  pub some_states : 1 ≤ n
  pub few_states : n ≤ 1024

-- These are the counts of k keys and n states.
pub record CountsOf (k n : ℕ) (c : Counts) : Type 0 where
  pub within : Within k n
  pub keys : c.keys ≡ k
  pub most : c.most ≡ n

-- The counts of these numbers; none where one is not within the limits.
abbrev pub Counted : ℕ → ℕ → Option Counts → Type 0
Counted k n None = Within k n → ⊥
Counted k n (Some c) = CountsOf k n c
