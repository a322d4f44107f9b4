-- How a table is read as a list of numbers, and what its readers answer.
use Rattle.std.specs.Prelude.{◌≡◌, ℕ, ◌<◌, ◌≤◌, ◌⊎◌, List, Some, None, vec_items, Option}
use Rattle.machines.specs.Words.{Word, Keys}
use Rattle.machines.specs.Tables.{next, walk, shows}
use Rattle.answers.specs.declared.table.Table.{Table}
use Rattle.answers.specs.declared.table.Row.{Row}

-- How many keys a table is for.
abbrev pub keys_of : Table → ℕ
keys_of t = t.keys

-- How many rows a table has.
abbrev pub rows_of : Table → ℕ
rows_of t = t.rows

-- A table's numbers, row by row.
abbrev pub cells_of : Table → List ℕ
cells_of t = vec_items t.cells

-- Where key x leads from row i; none where there is no such row or key.
abbrev pub Next : Table → ℕ → ℕ → Option Row → Type 0
Next t i x None = (rows_of t ≤ i) ⊎ (keys_of t ≤ x)
Next t i x (Some r) = (i < rows_of t) × (x < keys_of t) × (r.0 ≡ next (keys_of t) (cells_of t) i x)

-- The row that a word leads to; none where the word has other keys.
abbrev pub Lead : Table → Word → Option Row → Type 0
Lead t w None = Keys (keys_of t) w → ⊥
Lead t w (Some r) = Keys (keys_of t) w × (r.0 < rows_of t) × (r.0 ≡ walk (keys_of t) (cells_of t) 0 w)

-- What a table shows after a word; none where the word has other keys.
abbrev pub Shows : Table → Word → Option ℕ → Type 0
Shows t w None = Keys (keys_of t) w → ⊥
Shows t w (Some m) = Keys (keys_of t) w × (m ≡ shows (keys_of t) (cells_of t) w)
