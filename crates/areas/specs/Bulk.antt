-- What areas hold after a write of many words.
use Rattle.std.specs.Prelude.{◌≡◌, ℕ, ◌+◌, ◌-◌, ◌<◌, ◌≤◌, List, ◌++◌, length, take, drop, replicate}
use Rattle.areas.specs.declared.area.Area.{Area}
use Rattle.areas.specs.Layout.{Dims, place, area_of}
use Rattle.areas.specs.Frames.{Rewritten}

-- A list with a word's letters from a place on, as far as the list goes.
unfoldable pub laid : List ℕ → ℕ → List ℕ → List ℕ
laid xs at word = take at xs ++ (take (length xs - at) word ++ drop (at + length word) xs)

-- A word's letters stand in an area from a place on.
abbrev pub Copied : List ℕ → List ℕ → Dims → Area → ℕ → List ℕ → Type 0
Copied w w' d a at word = Rewritten w w' d a (laid (area_of w d a) at word)

-- Zeros, as many as a list has numbers.
abbrev pub zeros : List ℕ → List ℕ
zeros xs = replicate (length xs) 0

-- An area holds zeros.
abbrev pub Cleared : List ℕ → List ℕ → Dims → Area → Type 0
Cleared w w' d a = Rewritten w w' d a (zeros (area_of w d a))

-- The areas before one hold zeros; it and those behind it stay.
pub record ClearedBefore (w w' : List ℕ) (d : Dims) (a : Area) : Type 0 where
  pub before : (b : Area) → place b < place a → area_of w' d b ≡ zeros (area_of w d b)
  pub others : (b : Area) → place a ≤ place b → area_of w' d b ≡ area_of w d b
  pub long : length w' ≡ length w
