-- Pairs of rows, one of each of two tables.
use Rattle.std.specs.Prelude.{ℕ, ◌<◌, Bool, nat_eq, ◌&&◌}
use Rattle.answers.specs.declared.table.Table.{Table}
use Rattle.answers.specs.Values.{rows_of}
use Rattle.differences.specs.declared.product.Pair.{Pair}

-- Both tables have the rows of a pair.
pub record Inside (one other : Table) (p : Pair) : Type 0 where
  pub one_in : p.one.0 < rows_of one
  pub other_in : p.other.0 < rows_of other

-- The numbers of the rows of a pair.
abbrev pub rows_in : Pair → ℕ × ℕ
rows_in p = (p.one.0, p.other.0)

-- Whether two pairs of numbers are the same.
abbrev pub same_rows : ℕ × ℕ → ℕ × ℕ → Bool
same_rows x y = nat_eq x.0 y.0 && nat_eq x.1 y.1
