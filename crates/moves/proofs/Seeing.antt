-- What is read of a word that is 0 or 1 and a number.
use Rattle.std.proofs.Common.{◌≡◌, ℕ, suc, ◌-◌, ◌<◌, ◌≤◌, true, false, is_some, eqb, refl, sym, ap, subst, arith}
use Rattle.std.proofs.lemmas.Bool.{eq-eqb, eqb-true, true≢false}
use Rattle.std.specs.Option.{SomeIff, option_eq, unwrap_or}
use Rattle.std.specs.Prelude.{Option, Some, None}
use Rattle.model.specs.Observations.{one_less}
use Rattle.moves.specs.Observed.{seen_value}

-- A word less 1, where it is not 0, is seen as the word.
pub seen_less : (v : ℕ) (r : Option ℕ) → SomeIff r (1 ≤ v) (v - 1) → seen_value r ≡ v
seen_less v None h = omega (arith, h)
seen_less v (Some x) h = omega (arith, h.0, h.1)

-- What is seen is 0 where there is none, and only there.
pub seen_none : (r : Option ℕ) → is_some r ≡ false → seen_value r ≡ 0
seen_none None h = refl
seen_none (Some x) h = search

pub seen_some : (r : Option ℕ) → is_some r ≡ true → 0 < seen_value r
seen_some None h = absurd (true≢false (sym h))
seen_some (Some x) h = omega arith

-- What is seen tells Options apart.
pub seen_same : (r s : Option ℕ) → seen_value r ≡ seen_value s → r ≡ s
seen_same None None h = refl
seen_same None (Some y) h = absurd (omega (arith, h))
seen_same (Some x) None h = absurd (omega (arith, h))
seen_same (Some x) (Some y) h = ap Some (omega (arith, h))

-- What is seen to be the same is equal.
same_itself : (r : Option ℕ) → option_eq eqb r r ≡ true
same_itself None = refl
same_itself (Some x) = eq-eqb x x refl

pub seen_equal : (r s : Option ℕ) → seen_value r ≡ seen_value s → option_eq eqb r s ≡ true
seen_equal r s h = subst (λ z. option_eq eqb r z ≡ true) (seen_same r s h) (same_itself r)

-- What is equal is seen to be the same.
pub equal_seen : (r s : Option ℕ) → option_eq eqb r s ≡ true → seen_value r ≡ seen_value s
equal_seen None None h = refl
equal_seen None (Some y) h = absurd (true≢false (sym h))
equal_seen (Some x) None h = absurd (true≢false (sym h))
equal_seen (Some x) (Some y) h = ap suc (eqb-true x y h)

-- A number that is there, or else 0, is what is seen less 1.
pub seen_or : (r : Option ℕ) → unwrap_or r 0 ≡ seen_value r - 1
seen_or None = refl
seen_or (Some x) = omega arith

pub or_less : (r : Option ℕ) → unwrap_or r 0 ≡ one_less (seen_value r)
or_less None = refl
or_less (Some x) = refl
