-- Answers in a list, by their places.
use Rattle.std.proofs.Common.{◌≡◌, ℕ, zero, suc, ◌<◌, List, [], ◌∷◌, length, get_or, refl, suc-le-suc, zero-le, le_of_suc-le-suc, not-suc-le-zero}
use Rattle.machines.specs.Answers.{Told, In}
use Rattle.machines.specs.Answers.In.{here, there}

-- What stands at a place is in the list.
pub in-get_or : (told : List Told) (i : ℕ) (d : Told) → i < length told → In (get_or told i d) told
in-get_or [] i d h = absurd (not-suc-le-zero h)
in-get_or (a ∷ told) zero d h = here
in-get_or (a ∷ told) (suc i) d h = there (in-get_or told i d (le_of_suc-le-suc h))

-- What is in the list stands at a place.
pub in_place : {x : Told} {told : List Told} (d : Told) → In x told → (i : ℕ) × (i < length told) × (get_or told i d ≡ x)
in_place d here = (0, suc-le-suc zero-le, refl)
in_place d (there m) = let p = in_place d m in (suc p.0, suc-le-suc p.1, p.2)
