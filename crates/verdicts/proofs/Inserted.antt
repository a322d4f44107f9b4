-- One more answer taken into an order.
use Rattle.std.proofs.Common.{◌≡◌, ℕ, ◌+◌, ◌-◌, ◌<◌, ◌≤◌, ◌⊎◌, List, length, get_or, sym, ap, ◌∙◌, subst, inl, inr, arith}
use Rattle.std.proofs.lemmas.Bool.{cases_lt, cases_order}
use Rattle.machines.specs.Words.{Word, Before}
use Rattle.machines.specs.Answers.{Told}
use Rattle.machines.proofs.Alphabet.{before_irrefl, before_cases}
use Rattle.verdicts.specs.Orders.{word_at, Sorted, Ordered, Placed, StandsAt}

-- A word that does not stand at its place stands nowhere.
pub nowhere : (answers : List Told) (order : List ℕ) (w : Word) (p : ℕ) → Sorted answers order → Placed answers order w p → (StandsAt answers order w p → ⊥) → (q : ℕ) → StandsAt answers order w q → ⊥
nowhere answers order w p sorted placed missing q s =
    elim (cases_order q p) [
      | inl e ↦ missing (subst (StandsAt answers order w) e s)
      | inr (inl l) ↦ before_irrefl w (subst (λ z. Before z w) s.1 (placed.below q l))
      | inr (inr l) ↦ placed.above p (omega arith) (omega (arith, l, s.0)) (subst (Before (word_at answers (get_or order p 0))) s.1 (sorted.rising p q l s.0))
    ]

-- If a word stands somewhere, one more answer with it changes nothing.
pub known_ordered : (answers : List Told) (n : ℕ) (order : List ℕ) (p : ℕ) → StandsAt answers order (word_at answers n) p → Ordered answers n order → Ordered answers (n + 1) order
known_ordered answers n order p s o = record {
  sorted = o.sorted;
  early = λ q h. omega (arith, o.early q h);
  every = λ i h. elim (cases_lt i n) [
    | inl l ↦ o.every i l
    | inr l ↦ (p, s.0, s.1 ∙ ap (word_at answers) (omega (arith, h, l)))
  ];
  first = λ q i h hi e. elim (cases_lt i n) [ inl l ↦ o.first q i h l e | inr l ↦ omega (arith, o.early q h, l) ];
}

-- The numbers of a list with one more at place p.
pub record Wider (order wider : List ℕ) (p n : ℕ) : Type 0 where
  pub long : length wider ≡ length order + 1
  pub front : (k : ℕ) → k < p → get_or wider k 0 ≡ get_or order k 0
  pub here : get_or wider p 0 ≡ n
  pub back : (k : ℕ) → p < k → get_or wider k 0 ≡ get_or order (k - 1) 0

module _ (answers : List Told) (n : ℕ) (order wider : List ℕ) (p : ℕ) (o : Ordered answers n order) (within : n < length answers) (placed : Placed answers order (word_at answers n) p)
    (missing : (q : ℕ) → StandsAt answers order (word_at answers n) q → ⊥) (w : Wider order wider p n) where
  old : ℕ → Word
  old q = word_at answers (get_or order q 0)

  -- What stands at place k stood at place q before, or is new.
  from_where : (k : ℕ) → k < length wider → ((q : ℕ) × (q < length order) × (get_or wider k 0 ≡ get_or order q 0)) ⊎ (get_or wider k 0 ≡ n)
  from_where k h = elim (cases_order k p) [
    | inl e ↦ inr (ap (λ (z : ℕ). get_or wider z 0) e ∙ w.here)
    | inr (inl l) ↦ inl (k, omega (arith, l, placed.fits), w.front k l)
    | inr (inr l) ↦ inl (k - 1, omega (arith, l, h, w.long), w.back k l)
  ]

  wider_inside : (k : ℕ) → k < length wider → get_or wider k 0 < n + 1
  wider_inside k h = elim (from_where k h) [
    | inl f ↦ omega (arith, f.2, o.early f.0 f.1)
    | inr e ↦ omega (arith, e)
  ]

  -- The new word comes before all from its place on.
  new_before : (q : ℕ) → p ≤ q → q < length order → Before (word_at answers n) (word_at answers (get_or order q 0))
  new_before q l h = elim (before_cases (word_at answers n) (word_at answers (get_or order q 0))) [
    | inl e ↦ absurd (missing q (h, sym e))
    | inr (inl b) ↦ b
    | inr (inr b) ↦ absurd (placed.above q l h b)
  ]

  rises : (x y : Word) (i j : ℕ) → word_at answers i ≡ x → word_at answers j ≡ y → Before x y → Before (word_at answers i) (word_at answers j)
  rises x y i j e f b = subst (λ z. Before z (word_at answers j)) (sym e) (subst (Before x) (sym f) b)

  wider_rising : (a b : ℕ) → a < b → b < length wider → Before (word_at answers (get_or wider a 0)) (word_at answers (get_or wider b 0))
  wider_rising a b l h = elim (cases_order b p) [
    | inl e ↦ rises _ _ _ _ (ap (word_at answers) (w.front a (omega arith))) (ap (λ (z : ℕ). word_at answers (get_or wider z 0)) e ∙ ap (word_at answers) w.here) (placed.below a (omega arith))
    | inr (inl lb) ↦ rises _ _ _ _ (ap (word_at answers) (w.front a (omega arith))) (ap (word_at answers) (w.front b lb)) (o.sorted.rising a b l (omega (arith, lb, placed.fits)))
    | inr (inr lb) ↦ elim (cases_order a p) [
      | inl e ↦ rises _ _ _ _ (ap (λ (z : ℕ). word_at answers (get_or wider z 0)) e ∙ ap (word_at answers) w.here) (ap (word_at answers) (w.back b lb)) (new_before (b - 1) (omega (arith, lb)) (omega (arith, lb, h, w.long)))
      | inr (inl la) ↦ rises _ _ _ _ (ap (word_at answers) (w.front a la)) (ap (word_at answers) (w.back b lb)) (o.sorted.rising a (b - 1) (omega (arith, la, lb)) (omega (arith, lb, h, w.long)))
      | inr (inr la) ↦ rises _ _ _ _ (ap (word_at answers) (w.back a la)) (ap (word_at answers) (w.back b lb)) (o.sorted.rising (a - 1) (b - 1) (omega (arith, l, la)) (omega (arith, lb, h, w.long)))
    ]
  ]

  -- Where an old place is now.
  now_at : (q : ℕ) → q < length order → (k : ℕ) × (k < length wider) × (get_or wider k 0 ≡ get_or order q 0)
  now_at q h = elim (cases_lt q p) [
    | inl l ↦ (q, omega (arith, h, w.long), w.front q l)
    | inr l ↦ (q + 1, omega (arith, h, w.long), w.back (q + 1) (omega (arith, l)) ∙ ap (λ (z : ℕ). get_or order z 0) (omega arith))
  ]

  pub wider_ordered : Ordered answers (n + 1) wider
  wider_ordered = record {
    sorted = record { inside = λ k h. omega (arith, wider_inside k h, within); rising = wider_rising };
    early = wider_inside;
    every = λ i h. elim (cases_lt i n) [
      | inl l ↦ let q = o.every i l in let k = now_at q.0 q.1 in (k.0, k.1, ap (word_at answers) k.2 ∙ q.2)
      | inr l ↦ (p, omega (arith, w.long, placed.fits), ap (word_at answers) w.here ∙ ap (word_at answers) (omega (arith, h, l)))
    ];
    first = λ k i h hi e. elim (cases_lt i n) [
      | inl l ↦ elim (from_where k h) [
        | inl f ↦ omega (arith, f.2, o.first f.0 i f.1 l (e ∙ ap (word_at answers) f.2))
        | inr f ↦ let q = o.every i l in absurd (missing q.0 (q.1, q.2 ∙ (e ∙ ap (word_at answers) f)))
      ]
      | inr l ↦ omega (arith, wider_inside k h, l)
    ];
  }
