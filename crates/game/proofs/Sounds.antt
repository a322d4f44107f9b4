-- The numbers of a sound table make a table.
use Rattle.std.proofs.Common.{◌≡◌, ℕ, ◌+◌, ◌*◌, ◌/◌, ◌%◌, ◌≤◌, List, [], length, refl, ap, ◌∙◌, arith}
use Rattle.std.proofs.lemmas.Nat.{div-mul-add, mod-mul-add, mul-le}
use Rattle.machines.specs.Tables.{Sound}
use Rattle.answers.specs.declared.table.makes.TableFault.{TableFault}
use Rattle.answers.specs.declared.table.makes.TableFault.TheVariants.{NoRows, ManyRows, NoKeys, ManyKeys, Uneven, NoSuchRow, Memory}
use Rattle.answers.specs.Made.{whole_rows, RefusedNumbers}

module _ (k rows : ℕ) (t : List ℕ) (sound : Sound k rows t) where
  long : length t ≡ rows * (k + 1) + 0
  long = omega (arith, sound.long)

  -- It has as many whole rows as it has rows.
  rows_are : whole_rows k t ≡ rows
  rows_are = ap (λ (z : ℕ). z / (k + 1)) long ∙ div-mul-add rows (k + 1) 0 (omega arith)

  even : length t % (k + 1) ≡ 0
  even = ap (λ (z : ℕ). z % (k + 1)) long ∙ mod-mul-add rows (k + 1) 0 (omega arith)

  some_numbers : t ≡ [] → ⊥
  some_numbers e =
      let none : length t ≡ 0 = ap length e in
      omega (arith, sound.long, none, sound.some_rows, mul-le 1 1 rows (k + 1) sound.some_rows (omega arith))

  -- Only for want of memory is it refused.
  pub only_memory : 1 ≤ k → k ≤ 64 → rows ≤ 1048576 → (e : TableFault) → RefusedNumbers k t e → e ≡ Memory
  only_memory some few rows_few NoRows r = absurd (some_numbers r)
  only_memory some few rows_few (ManyRows n) r = absurd (omega (arith, r.0, r.1, rows_are, rows_few))
  only_memory some few rows_few NoKeys r = absurd (omega (arith, r, some))
  only_memory some few rows_few (ManyKeys n) r = absurd (omega (arith, r.0, r.1, few))
  only_memory some few rows_few (Uneven i) r = absurd (r.1 even)
  only_memory some few rows_few (NoSuchRow i x) r =
      absurd (omega (arith, rows_are, r.leads, sound.inside i.0 x.0 (omega (arith, r.row, rows_are)) r.key))
  only_memory some few rows_few Memory r = refl
