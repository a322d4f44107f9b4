-- Boxes, and tables that do what a box does.
use Rattle.std.specs.Prelude.{◌≡◌, ℕ, ◌+◌, ◌*◌, ◌<◌, List, [], ◌∷◌, length, slice_index}
use Rattle.machines.specs.Words.{Word, Keys}

-- A box shows a number after any word of keys.
abbrev pub Box : Type 0
Box = Word → ℕ

-- A table for k keys is rows of k + 1 numbers, one after the other: what the row shows, then for each key the row that it leads to. Row 0 begins.
abbrev pub Table : Type 0
Table = List ℕ

-- What row i shows.
abbrev pub row_shows : ℕ → Table → ℕ → ℕ
row_shows k t i = slice_index t (i * (k + 1))

-- The row that key x leads to from row i.
abbrev pub next : ℕ → Table → ℕ → ℕ → ℕ
next k t i x = slice_index t (i * (k + 1) + (1 + x))

-- There is a row, no number is missing, and each key of each row leads to a row.
pub record Sound (k rows : ℕ) (t : Table) : Type 0 where
  pub some_rows : 0 < rows
  pub long : length t ≡ rows * (k + 1)
  pub inside : (i x : ℕ) → i < rows → x < k → next k t i x < rows

-- The row that a word leads to from row i.
abbrev pub walk : ℕ → Table → ℕ → Word → ℕ
walk k t i [] = i
walk k t i (x ∷ w) = walk k t (next k t i x) w

-- What a table shows after a word.
abbrev pub shows : ℕ → Table → Word → ℕ
shows k t w = row_shows k t (walk k t 0 w)

-- Two boxes show the same after every word of keys.
abbrev pub Same : ℕ → Box → Box → Type 0
Same k b c = (w : Word) → Keys k w → b w ≡ c w

-- A box is one of n states if some table of n rows shows what it shows.
abbrev pub OfStates : ℕ → ℕ → Box → Type 0
OfStates k n b = (t : Table) × Sound k n t × Same k (shows k t) b
