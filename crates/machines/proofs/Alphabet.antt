-- Alphabetical order of words.
use Rattle.std.proofs.Common.{◌≡◌, ℕ, ◌≤◌, ◌⊎◌, [], ◌∷◌, ◌++◌, length, sym, refl, ap, ◌∙◌, subst, inl, inr, arith}
use Rattle.std.proofs.lemmas.Bool.{cases_order}
use Rattle.machines.specs.Words.{Word, Before}

pub before_trans : (u v w : Word) → Before u v → Before v w → Before u w
before_trans [] [] w h k = absurd h
before_trans [] (y ∷ v) [] h k = absurd k
before_trans [] (y ∷ v) (z ∷ w) h k = tt
before_trans (x ∷ u) [] w h k = absurd h
before_trans (x ∷ u) (y ∷ v) [] h k = absurd k
before_trans (x ∷ u) (y ∷ v) (z ∷ w) (inl l) (inl m) = inl (omega (arith, l, m))
before_trans (x ∷ u) (y ∷ v) (z ∷ w) (inl l) (inr m) = inl (omega (arith, l, m.0))
before_trans (x ∷ u) (y ∷ v) (z ∷ w) (inr l) (inl m) = inl (omega (arith, l.0, m))
before_trans (x ∷ u) (y ∷ v) (z ∷ w) (inr l) (inr m) = inr (l.0 ∙ m.0, before_trans u v w l.1 m.1)

pub before_irrefl : (u : Word) → Before u u → ⊥
before_irrefl [] h = h
before_irrefl (x ∷ u) (inl l) = omega (arith, l)
before_irrefl (x ∷ u) (inr l) = before_irrefl u l.1

pub before_asym : (u v : Word) → Before u v → Before v u → ⊥
before_asym u v h k = before_irrefl u (before_trans u v u h k)

-- Of two words one comes first, or they are the same.
pub before_cases : (u v : Word) → (u ≡ v) ⊎ (Before u v ⊎ Before v u)
before_cases [] [] = inl refl
before_cases [] (y ∷ v) = inr (inl tt)
before_cases (x ∷ u) [] = inr (inr tt)
before_cases (x ∷ u) (y ∷ v) =
    elim (cases_order x y) [
      | inl e ↦ elim (before_cases u v) [
        | inl s ↦ inl (ap (λ (z : ℕ). z ∷ u) e ∙ ap (λ (z : Word). y ∷ z) s)
        | inr (inl b) ↦ inr (inl (inr (e, b)))
        | inr (inr b) ↦ inr (inr (inr (sym e, b)))
      ]
      | inr (inl l) ↦ inr (inl (inl l))
      | inr (inr l) ↦ inr (inr (inl l))
    ]

-- The order of two words is that of what stands behind a common front.
pub before_behind : (p u v : Word) → Before u v → Before (p ++ u) (p ++ v)
before_behind [] u v h = h
before_behind (x ∷ p) u v h = inr (refl, before_behind p u v h)

-- Words that differ before the end of the first stay in order, whatever stands behind them; and so does a word that ends.
pub before_longer : (u v x y : Word) → Before u v → (length v ≤ length u) ⊎ (x ≡ []) → Before (u ++ x) (v ++ y)
before_longer [] [] x y h c = absurd h
before_longer [] (b ∷ v) x y h (inl c) = absurd (omega (arith, c))
before_longer [] (b ∷ v) x y h (inr c) = subst (λ z. Before z (b ∷ (v ++ y))) (sym c) tt
before_longer (a ∷ u) [] x y h c = absurd h
before_longer (a ∷ u) (b ∷ v) x y (inl l) c = inl l
before_longer (a ∷ u) (b ∷ v) x y (inr l) (inl c) = inr (l.0, before_longer u v x y l.1 (inl (omega (arith, c))))
before_longer (a ∷ u) (b ∷ v) x y (inr l) (inr c) = inr (l.0, before_longer u v x y l.1 (inr c))

-- No word comes before its own front.
pub front_first : (u x : Word) → Before (u ++ x) u → ⊥
front_first [] [] h = h
front_first [] (y ∷ x) h = h
front_first (a ∷ u) x (inl l) = omega (arith, l)
front_first (a ∷ u) x (inr l) = front_first u x l.1

-- A word that does not come before u and does not begin with it comes behind all that does.
pub behind_all : (u w : Word) → (Before w u → ⊥) → ((x : Word) → w ≡ u ++ x → ⊥) → (x : Word) → Before (u ++ x) w
behind_all [] w nb np x = absurd (np w refl)
behind_all (a ∷ u) [] nb np x = absurd (nb tt)
behind_all (a ∷ u) (b ∷ w) nb np x =
    elim (cases_order a b) [
      | inl e ↦ inr (e, behind_all u w (λ h. nb (inr (sym e, h))) (λ z h. np z (ap (λ (y : ℕ). y ∷ w) (sym e) ∙ ap (λ (y : Word). a ∷ y) h)) x)
      | inr (inl l) ↦ inl l
      | inr (inr l) ↦ absurd (nb (inl l))
    ]
