-- Decisions of what is made of things that are decided.
use Rattle.std.specs.Prelude.{◌≡◌, ℕ, zero, suc, ◌<◌, ◌⊎◌, [], ◌∷◌}
use Rattle.std.proofs.Common.{inl, inr, ⊎_elim, zero-le, suc-le-suc, not-suc-le-zero, le_of_suc-le-suc}
use Rattle.std.proofs.Math.Logic.Dec
use mathlib.Core.List.{List-discrete}
use Rattle.std.proofs.Math.Option.{Option, some, none}
use Rattle.std.proofs.Math.Decide.{ℕ_discrete, dec_lt, map_dec}
use Rattle.machines.specs.Words.{Word, Keys}

-- A value where something is decided to hold, and none where it doesn't.
abbrev pub given : {P A : Type 0} → Dec P → A → Option A
given (yes p) x = some x
given (no np) x = none

-- Whether one thing implies another.
pub dec_imp : {A B : Type 0} → Dec A → Dec B → Dec (A → B)
dec_imp (yes a) (yes b) = yes (λ x. b)
dec_imp (yes a) (no nb) = no (λ f. nb (f a))
dec_imp (no na) d = yes (λ a. absurd (na a))

-- Whether something fails.
pub dec_not : {A : Type 0} → Dec A → Dec (A → ⊥)
dec_not (yes a) = no (λ f. f a)
dec_not (no na) = yes na

-- Whether one of two things holds.
pub dec_or : {A B : Type 0} → Dec A → Dec B → Dec (A ⊎ B)
dec_or (yes a) d = yes (inl a)
dec_or (no na) (yes b) = yes (inr b)
dec_or (no na) (no nb) = no (⊎_elim na nb)

-- Whether all numbers below n are as P says.
pub dec_all : {P : ℕ → Type 0} → ((i : ℕ) → Dec (P i)) → (n : ℕ) → Dec ((i : ℕ) → i < n → P i)
dec_all d zero = yes (λ i h. absurd (not-suc-le-zero h))
dec_all {P} d (suc n) =
    map_dec (λ h. elim [ zero ↦ λ l. h.0 | suc i ↦ λ l. h.1 i (le_of_suc-le-suc l) ]) (λ f. (f 0 (suc-le-suc zero-le), λ i h. f (suc i) (suc-le-suc h)))
    (Dec.and (d 0) (dec_all {P = λ i. P (suc i)} (λ i. d (suc i)) n))

-- A number below n + 1 that is as P says is 0, or 1 and a number below n.
some_split : (P : ℕ → Type 0) {n : ℕ} (i : ℕ) → i < suc n → P i → P 0 ⊎ ((j : ℕ) × (j < n) × P (suc j))
some_split P zero h p = inl p
some_split P (suc i) h p = inr (i, le_of_suc-le-suc h, p)

-- Whether some number below n is as P says.
pub dec_any : {P : ℕ → Type 0} → ((i : ℕ) → Dec (P i)) → (n : ℕ) → Dec ((i : ℕ) × (i < n) × P i)
dec_any d zero = no (λ h. not-suc-le-zero h.1)
dec_any {P} d (suc n) =
    map_dec (⊎_elim (λ p. (0, suc-le-suc zero-le, p)) (λ h. (suc h.0, suc-le-suc h.1, h.2))) (λ h. some_split P h.0 h.1 h.2)
    (dec_or (d 0) (dec_any {P = λ i. P (suc i)} (λ i. d (suc i)) n))

-- Whether all pairs of numbers below m and n are as P says.
pub dec_pairs : {P : ℕ → ℕ → Type 0} → ((i j : ℕ) → Dec (P i j)) → (m n : ℕ) → Dec ((i j : ℕ) → i < m → j < n → P i j)
dec_pairs {P} d m n = map_dec (λ f i j h l. f i h j l) (λ f i h j l. f i j h l) (dec_all {P = λ i. (j : ℕ) → j < n → P i j} (λ i. dec_all {P = P i} (d i) n) m)

-- Whether two words are the same.
pub dec_word : (u v : Word) → Dec (u ≡ v)
dec_word = List-discrete ℕ_discrete

-- Whether a word is one of keys below k.
pub dec_keys : (k : ℕ) (w : Word) → Dec (Keys k w)
dec_keys k [] = yes tt
dec_keys k (x ∷ w) = Dec.and (dec_lt x k) (dec_keys k w)
