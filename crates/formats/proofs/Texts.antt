-- How numbers are written one after another.
use Rattle.std.proofs.Common.{◌≡◌, ℕ, List, [], ◌∷◌, ◌++◌, flat_map, decimal, ap, append-nil}
use Rattle.formats.specs.Words.{numbers_text}

-- The first number, and then each with a blank before it.
pub blanks_before : (n : ℕ) (ns : List ℕ) → decimal n ++ flat_map (λ m. 32 ∷ decimal m) ns ≡ numbers_text (n ∷ ns)
blanks_before n [] = append-nil _
blanks_before n (m ∷ ns) = ap (λ t. decimal n ++ 32 ∷ t) (blanks_before m ns)
