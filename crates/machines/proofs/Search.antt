-- A bounded search over numbers, with no excluded middle.
use Rattle.std.proofs.Common.{ℕ, zero, suc, ◌<◌, ◌⊎◌, inl, inr, suc-le-suc, zero-le, le_of_suc-le-suc, not-suc-le-zero}

-- Either some number below n is as P says, or all are as Q says.
pub all_or : {P Q : ℕ → Type 0} (n : ℕ) → ((i : ℕ) → i < n → P i ⊎ Q i) → ((i : ℕ) × (i < n) × P i) ⊎ ((i : ℕ) → i < n → Q i)
all_or zero d = inr (λ i h. absurd (not-suc-le-zero h))
all_or {P} {Q} (suc n) d =
    elim (d 0 (suc-le-suc zero-le)) [
      | inl p ↦ inl (0, suc-le-suc zero-le, p)
      | inr q ↦ elim (all_or {P = λ i. P (suc i)} {Q = λ i. Q (suc i)} n (λ i h. d (suc i) (suc-le-suc h))) [
        | inl r ↦ inl (suc r.0, suc-le-suc r.1, r.2)
        | inr all ↦ inr (elim [ zero ↦ λ h. q | suc i ↦ λ h. all i (le_of_suc-le-suc h) ])
      ]
    ]
