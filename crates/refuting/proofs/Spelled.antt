-- Words of keys, letter by letter.
use Rattle.std.proofs.Common.{ℕ, suc, ◌<◌, ◌≤◌, Bool, true, false, [], ◌∷◌, length, get_or, Decides, MatchBool, refl, sym, subst, arith}
use Rattle.std.proofs.lemmas.Bool.{true≢false}
use Rattle.std.proofs.lemmas.List.{drop_more}
use Rattle.std.specs.List.{HoldsAt, AllWithin}
use Rattle.machines.specs.Words.{Word, Keys}
use Rattle.model.proofs.Bisecting.{keys_take}

-- A word is one of keys if each letter is one.
keys_of_letters : (k : ℕ) (w : Word) → ((i : ℕ) → i < length w → get_or w i 0 < k) → Keys k w
keys_of_letters k [] h = tt
keys_of_letters k (x ∷ w) h = (h 0 (omega arith), keys_of_letters k w (λ i l. h (suc i) (omega (arith, l))))

-- Each letter of a word of keys is one.
pub keys_at : (k : ℕ) (w : Word) (i : ℕ) → i < length w → Keys k w → get_or w i 0 < k
keys_at k w i h keys = (subst (Keys k) (drop_more w i 0 h) (keys_take k i w keys).1).0

-- Whether a word is one of keys, by a look at each letter.
pub keys_from_cases : (r : Bool) (k : ℕ) (w : Word) → MatchBool r (AllWithin (λ x. x < k) w 0 (length w)) ((i : ℕ) × (i < length w) × HoldsAt (λ x. k ≤ x) w i) → Decides r (Keys k w)
keys_from_cases true k w h = (λ _. keys_of_letters k w (λ i l. h i 0 (omega arith) l), λ _. refl)
keys_from_cases false k w h = (λ e. absurd (true≢false (sym e)), λ keys. absurd (omega (arith, keys_at k w h.0 h.1 keys, h.2 0)))
