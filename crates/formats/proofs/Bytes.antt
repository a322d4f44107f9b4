-- What one byte more makes of a line that is being read. Assumes nothing.
use Rattle.std.proofs.Common.{◌≡◌, ℕ, ◌+◌, ◌<◌, List, length, get_or, drop, Err, Ok, ◌∙◌}
use Rattle.std.proofs.lemmas.List.{at_drop_more}
use Rattle.std.proofs.lemmas.Bool.{ne_eqb}
use Rattle.formats.specs.declared.faults.LineFault.{LineFault}
use Rattle.formats.specs.Tokens.{Sofar, kind, next, tokens_on}

module _ (s : Sofar) (n : ℕ) (bs : List ℕ) (i : ℕ) (lt : i < length bs) (ne : get_or bs i 0 ≡ 35 → ⊥) where
  pub at_fault : (f : LineFault) → next s n (kind (get_or bs i 0)) ≡ Err f → tokens_on s n (drop i bs) ≡ Err f
  at_fault f e = at_drop_more (tokens_on s n) bs i 0 lt ∙ rw (ne_eqb (get_or bs i 0) 35 ne, e)

  pub at_byte : (t : Sofar) → next s n (kind (get_or bs i 0)) ≡ Ok t → tokens_on s n (drop i bs) ≡ tokens_on t (n + 1) (drop (i + 1) bs)
  at_byte t e = at_drop_more (tokens_on s n) bs i 0 lt ∙ rw (ne_eqb (get_or bs i 0) 35 ne, e)
