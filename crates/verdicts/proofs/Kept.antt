-- What an index keeps of its order.
use Rattle.std.proofs.Common.{◌≡◌, ℕ, ◌<◌, ◌≤◌, ◌⊎◌, List, length, get_or, subst, inl, inr, arith}
use mathlib.Core.Logic.{∥∥₁_elim}
use Rattle.std.proofs.lemmas.Bool.{cases_lt}
use Rattle.machines.specs.Words.{Word, Before}
use Rattle.machines.specs.Answers.{Told}
use Rattle.machines.proofs.Alphabet.{before_cases, before_irrefl, before_asym}
use Rattle.machines.proofs.Search.{all_or}
use Rattle.verdicts.specs.Orders.{word_at, Indexed}

pub same_or_not : (u v : Word) → (u ≡ v) ⊎ (u ≡ v → ⊥)
same_or_not u v = elim (before_cases u v) [
  | inl e ↦ inl e
  | inr (inl b) ↦ inr (λ e. before_irrefl v (subst (λ z. Before z v) e b))
  | inr (inr b) ↦ inr (λ e. before_irrefl v (subst (Before v) e b))
]

-- That there is a proof of what an order says of its answers is enough for one.
module _ (answers : List Told) (order : List ℕ) (kept : ∥ Indexed answers order ∥₁) where
  abbrev standing : ℕ → Word
  standing p = word_at answers (get_or order p 0)

  never : (Indexed answers order → ⊥) → ⊥
  never n = ∥∥₁_elim kept (λ x. absurd x) n

  inside : (p : ℕ) → p < length order → get_or order p 0 < length answers
  inside p h = elim (cases_lt (get_or order p 0) (length answers)) [ inl l ↦ l | inr l ↦ absurd (never (λ o. omega (arith, l, o.sorted.inside p h))) ]

  rising : (p q : ℕ) → p < q → q < length order → Before (standing p) (standing q)
  rising p q l h = elim (before_cases (standing p) (standing q)) [
    | inl e ↦ absurd (never (λ o. before_irrefl (standing q) (subst (λ z. Before z (standing q)) e (o.sorted.rising p q l h))))
    | inr (inl b) ↦ b
    | inr (inr b) ↦ absurd (never (λ o. before_asym (standing p) (standing q) (o.sorted.rising p q l h) b))
  ]

  every : (i : ℕ) → i < length answers → (p : ℕ) × (p < length order) × (standing p ≡ word_at answers i)
  every i h = elim (all_or {P = λ p. standing p ≡ word_at answers i} {Q = λ p. standing p ≡ word_at answers i → ⊥} (length order) (λ p k. same_or_not (standing p) (word_at answers i))) [
    | inl found ↦ found
    | inr none ↦ absurd (never (λ o. let place = o.every i h in none place.0 place.1 place.2))
  ]

  first : (p i : ℕ) → p < length order → i < length answers → word_at answers i ≡ standing p → get_or order p 0 ≤ i
  first p i h k e = elim (cases_lt i (get_or order p 0)) [ inl l ↦ absurd (never (λ o. omega (arith, l, o.first p i h k e))) | inr l ↦ l ]

  pub indexed_of : Indexed answers order
  indexed_of = record { sorted = record { inside = inside; rising = rising }; early = inside; every = every; first = first }
