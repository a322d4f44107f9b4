-- When a table can be made from rows, and why not otherwise.
use Rattle.std.specs.Prelude.{◌≡◌, ℕ, ◌+◌, ◌/◌, ◌%◌, ◌<◌, ◌≤◌, List, [], map, length, vec_items, Vec, ◌≢◌, slice_index, slice_index_or}
use Rattle.std.specs.List.{flat_map}
use Rattle.machines.specs.Tables.{next}
use Rattle.answers.specs.declared.table.Table.{Table}
use Rattle.answers.specs.declared.table.makes.TableFault.{TableFault}
use Rattle.answers.specs.declared.table.makes.TableFault.TheVariants.{NoRows, ManyRows, NoKeys, ManyKeys, Uneven, NoSuchRow, Memory}
use Rattle.answers.specs.Values.{keys_of, rows_of, cells_of}

-- The lists of numbers that vectors hold.
abbrev pub lists : {A Z : Type 0} → List (Vec A Z) → List (List A)
lists vs = map vec_items vs

-- The table has the rows' numbers, one row after the other.
pub record MadeFrom (rows : List (List ℕ)) (t : Table) : Type 0 where
  pub width : keys_of t + 1 ≡ length (slice_index_or rows 0 [])
  pub count : rows_of t ≡ length rows
  pub cells : cells_of t ≡ flat_map (λ r. r) rows

-- Why rows make no table: there is none, or there are more than 1,048,576; the first has no keys, or more than 64; a row is longer or shorter than the first; a key leads to no row. Want of memory may always come.
abbrev pub Refused : List (List ℕ) → TableFault → Type 0
Refused rows NoRows = rows ≡ []
Refused rows (ManyRows n) = (1048576 < n) × (n ≡ length rows)
Refused rows NoKeys = (0 < length rows) × (length (slice_index_or rows 0 []) < 2)
Refused rows (ManyKeys k) = (0 < length rows) × (64 < k) × (k + 1 ≡ length (slice_index_or rows 0 []))
Refused rows (Uneven i) = (i.0 < length rows) × (length (slice_index_or rows i.0 []) ≢ length (slice_index_or rows 0 []))
Refused rows (NoSuchRow i x) = (i.0 < length rows) × (1 + x.0 < length (slice_index_or rows i.0 [])) × (length rows ≤ slice_index (slice_index_or rows i.0 []) (1 + x.0))
Refused rows Memory = Unit {0}

-- Each key of a row leads to one of so many rows.
abbrev pub AllLead : List ℕ → ℕ → ℕ → Type 0
AllLead row keys rows = (x : ℕ) → x < keys → slice_index row (1 + x) < rows

-- How many whole rows so many numbers make.
abbrev pub whole_rows : ℕ → List ℕ → ℕ
whole_rows keys numbers = length numbers / (keys + 1)

-- Key x of row i leads to none of so many rows.
pub record Stray (keys : ℕ) (numbers : List ℕ) (rows i x : ℕ) : Type 0 where
  pub row : i < rows
  pub key : x < keys
  pub leads : rows ≤ next keys numbers i x

-- Each key of each row leads to one of so many rows.
abbrev pub NoneStray : ℕ → List ℕ → ℕ → Type 0
NoneStray keys numbers rows = (i x : ℕ) → i < rows → x < keys → next keys numbers i x < rows

-- The table is for so many keys, and has these numbers.
pub record MadeOf (keys : ℕ) (numbers : List ℕ) (t : Table) : Type 0 where
  pub width : keys_of t ≡ keys
  pub count : rows_of t ≡ whole_rows keys numbers
  pub cells : cells_of t ≡ numbers

-- Why numbers make no table: there are no keys, or more than 64; the last row is too short; there is no row, or there are more than 1,048,576; a key leads to no row. Want of memory may always come.
abbrev pub RefusedNumbers : ℕ → List ℕ → TableFault → Type 0
RefusedNumbers keys numbers NoRows = numbers ≡ []
RefusedNumbers keys numbers (ManyRows n) = (1048576 < n) × (n ≡ whole_rows keys numbers)
RefusedNumbers keys numbers NoKeys = keys ≡ 0
RefusedNumbers keys numbers (ManyKeys k) = (64 < k) × (k ≡ keys)
RefusedNumbers keys numbers (Uneven i) = (i.0 ≡ whole_rows keys numbers) × (length numbers % (keys + 1) ≢ 0)
RefusedNumbers keys numbers (NoSuchRow i x) = Stray keys numbers (whole_rows keys numbers) i.0 x.0
RefusedNumbers keys numbers Memory = Unit {0}
