-- The rows that words lead to in both tables.
use Rattle.std.proofs.Common.{◌≡◌, ℕ, ◌+◌, ◌*◌, ◌/◌, ◌%◌, ◌<◌, ◌≤◌, Bool, true, false, cond, ◌≢◌, ◌⊎◌, nat_eq, List, [], ◌∷◌, ◌++◌, length, sym, refl, ap, ◌∙◌, subst, inl, inr, arith}
use Rattle.std.proofs.lemmas.Nat.{mul-add-lt, div-mul-add, mod-mul-add}
use Rattle.std.proofs.lemmas.List.{length_push}
use Rattle.std.proofs.lemmas.Bool.{cases_Bool, both_ways, and_parts, eqb-true}
use Rattle.std.proofs.lemmas.Bool.Decides.{nat_tests}
use Rattle.machines.specs.Words.{Word, Keys}
use Rattle.machines.specs.Tables.{walk, Sound}
use Rattle.machines.proofs.Pigeonhole.{pigeonhole}
use Rattle.machines.proofs.Walks.{walk_first}
use Rattle.differences.specs.Pairs.{same_rows}
use Rattle.differences.specs.Searches.{word_at, rows_at, Reached}
use Rattle.differences.proofs.Pushed.{word_old, word_new, each_pushed}

-- Two pairs with one number are one pair.
pub same_pair : (n i j i' j' : ℕ) → j < n → j' < n → i * n + j ≡ i' * n + j' → (i ≡ i') × (j ≡ j')
same_pair n i j i' j' h h' e = (
  sym (div-mul-add i n j h) ∙ (ap (λ z. z / n) e ∙ div-mul-add i' n j' h'),
  sym (mod-mul-add i n j h) ∙ (ap (λ z. z % n) e ∙ mod-mul-add i' n j' h'),
)

pub same_rows-self : (x : ℕ × ℕ) → same_rows x x ≡ true
same_rows-self x = grind (arith, nat_tests)

pub same_rows-true : (x y : ℕ × ℕ) → same_rows x y ≡ true → x ≡ y
same_rows-true x y e =
    let parts = and_parts (nat_eq x.0 y.0) (nat_eq x.1 y.1) e in
    ap (λ (z : ℕ). (z, x.1)) (eqb-true x.0 y.0 parts.0) ∙ ap (λ (z : ℕ). (y.0, z)) (eqb-true x.1 y.1 parts.1)

-- One pair of rows more is among these.
module _ (x : ℕ × ℕ) (old new : ℕ × ℕ → Bool) (more : (y : ℕ × ℕ) → new y ≡ cond (same_rows x y) true (old y)) where
  pub it_is_among : new x ≡ true
  it_is_among = more x ∙ ap (λ (z : Bool). cond z true (old x)) (same_rows-self x)

  pub still_among : (y : ℕ × ℕ) → old y ≡ true → new y ≡ true
  still_among y e = more y ∙ (ap (λ (z : Bool). cond (same_rows x y) true z) e ∙ elim (same_rows x y) as (λ z. cond z true true ≡ true) [ true ↦ refl | false ↦ refl ])

  pub among_or_it : (y : ℕ × ℕ) → new y ≡ true → (x ≡ y) ⊎ (old y ≡ true)
  among_or_it y e = elim (cases_Bool (same_rows x y)) [
    | inl same ↦ inl (same_rows-true x y same)
    | inr apart ↦ inr (sym (ap (λ (z : Bool). cond z true (old y)) apart) ∙ (sym (more y) ∙ e))
  ]

module _ (k : ℕ) (a b : List ℕ) where
  -- There are no more words than pairs.
  pub few_words :
      (m n : ℕ) (ws : List Word) (among : ℕ × ℕ → Bool) → Sound k m a → Sound k n b → ((p : ℕ) → p < length ws → Keys k (word_at ws p)) → Reached k a b ws among → length ws ≤ m * n
  few_words m n ws among sa sb keys d = pigeonhole (length ws) (m * n) number inside apart
    where
      number : ℕ → ℕ
      number p = walk k a 0 (word_at ws p) * n + walk k b 0 (word_at ws p)

      inside : (p : ℕ) → p < length ws → number p < m * n
      inside p h = omega (arith, mul-add-lt (walk k a 0 (word_at ws p)) n (walk k b 0 (word_at ws p)) m (walk_first sa (word_at ws p) (keys p h)) (walk_first sb (word_at ws p) (keys p h)))

      apart : (p q : ℕ) → p < q → q < length ws → number p ≢ number q
      apart p q l h e =
          let same = same_pair n _ _ _ _ (walk_first sb (word_at ws p) (keys p (omega (arith, l, h)))) (walk_first sb (word_at ws q) (keys q h)) e in
          d.distinct p q l h (ap (λ (z : ℕ). (z, walk k b 0 (word_at ws p))) same.0 ∙ ap (λ (z : ℕ). (walk k a 0 (word_at ws q), z)) same.1)

  -- No word, no rows.
  pub reached_none : (among : ℕ × ℕ → Bool) → ((x : ℕ × ℕ) → among x ≡ false) → Reached k a b [] among
  reached_none among none = record {
    each = λ p h. absurd (omega (arith, h));
    only = λ x e. absurd (both_ways (among x) (none x) e);
    distinct = λ p q l h. absurd (omega (arith, h));
  }

  -- A word to rows among these brings none.
  pub reached_known : (ws : List Word) (x : ℕ × ℕ) (old new : ℕ × ℕ → Bool) → ((y : ℕ × ℕ) → new y ≡ cond (same_rows x y) true (old y)) → old x ≡ true → Reached k a b ws old → Reached k a b ws new
  reached_known ws x old new more known d = record {
    each = λ p h. still_among x old new more _ (d.each p h);
    only = λ y e. elim (among_or_it x old new more y e) [ inl same ↦ d.only y (subst (λ z. old z ≡ true) same known) | inr there ↦ d.only y there ];
    distinct = d.distinct;
  }

  -- A word to other rows is put behind the others.
  pub reached_new :
      (ws : List Word) (w : Word) (old new : ℕ × ℕ → Bool) → ((y : ℕ × ℕ) → new y ≡ cond (same_rows (rows_at k a b w) y) true (old y)) → old (rows_at k a b w) ≡ false → Reached k a b ws old
      → Reached k a b (ws ++ (w ∷ [])) new
  reached_new ws w old new more clear d =
      let x = rows_at k a b w in
      let longer = ws ++ (w ∷ []) in
      record {
        each = each_pushed [] (λ _ v. new (rows_at k a b v) ≡ true) ws w (λ p l. still_among x old new more _ (d.each p l)) (it_is_among x old new more);
        only = λ y e. elim (among_or_it x old new more y e) [
          | inl same ↦ (length ws, omega (arith, length_push ws w), ap (rows_at k a b) (word_new ws w) ∙ same)
          | inr there ↦ let p = d.only y there in (p.0, omega (arith, p.1, length_push ws w), ap (rows_at k a b) (word_old ws w p.0 p.1) ∙ p.2)
        ];
        distinct = λ p q l g. each_pushed [] (λ q v. p < q → rows_at k a b (word_at longer p) ≡ rows_at k a b v → ⊥) ws w
            (λ q j l e. d.distinct p q l j (sym (ap (rows_at k a b) (word_old ws w p (omega (arith, l, j)))) ∙ e))
            (λ l e. both_ways (old x) clear (subst (λ z. old z ≡ true) (sym (ap (rows_at k a b) (word_old ws w p l)) ∙ e) (d.each p l)))
            q g l;
      }
