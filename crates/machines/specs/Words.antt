-- Words of keys, and their order.
use Rattle.std.specs.Prelude.{◌≡◌, ℕ, ◌<◌, ◌⊎◌, List, [], ◌∷◌, length}

-- A word is a list of keys, which are numbered from 0.
abbrev pub Word : Type 0
Word = List ℕ

-- Each key of a word is below k.
abbrev pub Keys : ℕ → Word → Type 0
Keys k [] = Unit {0}
Keys k (x ∷ w) = (x < k) × Keys k w

-- Alphabetical order: the smaller key where two words first differ, and a word before what goes on from it.
abbrev pub Before : Word → Word → Type 0
Before [] [] = ⊥
Before [] (y ∷ v) = Unit {0}
Before (x ∷ u) [] = ⊥
Before (x ∷ u) (y ∷ v) = (x < y) ⊎ ((x ≡ y) × Before u v)

-- The order of words: the shorter first, and of two equally long ones the first in alphabetical order.
abbrev pub Less : Word → Word → Type 0
Less u v = (length u < length v) ⊎ ((length u ≡ length v) × Before u v)
