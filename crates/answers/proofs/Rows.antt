-- The rows of a table's numbers, as parts of them.
use Rattle.std.proofs.Common.{◌≡◌, ℕ, suc, ◌+◌, ◌*◌, ◌<◌, ◌≤◌, List, ◌++◌, length, get_or, drop, sym, ap, ◌∙◌, inl, inr, suc-mul, length-drop, arith}
use Rattle.std.proofs.lemmas.Bool.{cases_lt}
use Rattle.std.proofs.Math.Seq.{drop-append_seam}
use Rattle.std.proofs.lemmas.Nat.{mul-le}
use Rattle.std.proofs.lemmas.List.{get_or_append_left, get_or-drop, drop-drop}
use Rattle.machines.specs.Tables.{next}

-- Where a key leads from a row that was cut off the numbers.
pub next_in_chunk : (k : ℕ) (t row rest : List ℕ) (i x : ℕ) → drop (i * (k + 1)) t ≡ row ++ rest → length row ≡ k + 1 → x < k → get_or row (1 + x) 0 ≡ next k t i x
next_in_chunk k t row rest i x cut long h =
    sym (get_or_append_left row rest 0 (1 + x) (omega arith)) ∙ (ap (λ (l : List ℕ). get_or l (1 + x) 0) (sym cut) ∙ get_or-drop (i * (k + 1)) t (1 + x) 0)

-- What is left when a row more was cut off.
pub rest_more : (w : ℕ) (t row rest : List ℕ) (i : ℕ) → drop (i * w) t ≡ row ++ rest → length row ≡ w → rest ≡ drop ((i + 1) * w) t
rest_more w t row rest i cut long =
    sym (drop-append_seam row rest) ∙ (ap (λ (l : List ℕ). drop (length row) l) (sym cut) ∙ (drop-drop (length row) (i * w) t ∙ ap (λ (n : ℕ). drop n t) (omega (arith, suc-mul i w))))

-- Where no row is left, all were cut off.
pub no_more_rows : (w rows : ℕ) (t : List ℕ) (i : ℕ) → rows * w ≡ length t → length (drop (i * w) t) < w → rows ≤ i
no_more_rows w rows t i long short = elim (cases_lt i rows) [
  | inl l ↦ absurd (omega (arith, mul-le (suc i) w rows w l (omega arith), suc-mul i w, length-drop (i * w) t))
  | inr l ↦ l
]
