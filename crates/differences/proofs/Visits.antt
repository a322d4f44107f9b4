-- Visits and their words.
use Rattle.std.proofs.Common.{◌≡◌, ℕ, ◌<◌, List, [], ◌∷◌, ◌++◌, reverse, length, Some, None, Option, sym, refl, ap, ◌∙◌, subst, append_assoc, arith}
use Rattle.std.proofs.lemmas.List.{length_push, reverse-append}
use Rattle.machines.specs.Words.{Word}
use Rattle.machines.specs.Tables.{walk}
use Rattle.differences.specs.declared.search.Step.{Step}
use Rattle.differences.specs.declared.search.Visit.{Visit}
use Rattle.differences.specs.Searches.{begin_visit, visit_at, word_at, Spelt, Linked, Paired}
use Rattle.differences.proofs.Pushed.{word_old, word_new, each_pushed}

pub linked_begin : Linked (begin_visit ∷ []) ([] ∷ [])
linked_begin = record {
  long = refl;
  some = omega arith;
  spelt = each_pushed begin_visit (λ p v. Spelt ([] ∷ []) p v.step) [] begin_visit (λ p h. absurd (omega (arith, h))) (refl, refl);
}

-- The first word is empty.
first_spelt : (ws : List Word) (o : Option Step) → Spelt ws 0 o → word_at ws 0 ≡ []
first_spelt ws None e = e.1
first_spelt ws (Some step) e = absurd (omega (arith, e.0))

pub linked_empty : {visits : List Visit} {ws : List Word} → Linked visits ws → word_at ws 0 ≡ []
linked_empty {visits = visits} {ws = ws} d = first_spelt ws (visit_at visits 0).step (d.spelt 0 d.some)

-- A word is spelt as before where one more stands behind.
spelt_longer : (ws : List Word) (w : Word) (p : ℕ) (o : Option Step) → p < length ws → Spelt ws p o → Spelt (ws ++ (w ∷ [])) p o
spelt_longer ws w p None h e = (e.0, word_old ws w p h ∙ e.1)
spelt_longer ws w p (Some step) h e = (e.0, word_old ws w p h ∙ (e.1 ∙ ap (λ (z : Word). z ++ (step.key ∷ [])) (sym (word_old ws w step.from (omega (arith, h, e.0))))))

pub paired_begin : (k : ℕ) (a b : List ℕ) → Paired k a b (begin_visit ∷ []) ([] ∷ [])
paired_begin k a b = record {
  one_is = each_pushed [] (λ p w. (visit_at (begin_visit ∷ []) p).pair.one.0 ≡ walk k a 0 w) [] [] (λ p h. absurd (omega (arith, h))) refl;
  other_is = each_pushed [] (λ p w. (visit_at (begin_visit ∷ []) p).pair.other.0 ≡ walk k b 0 w) [] [] (λ p h. absurd (omega (arith, h))) refl;
}

-- One visit more, with the word of an earlier one and the key of the step from there.
pub linked_new :
    (visits : List Visit) (ws : List Word) (v : Visit) (step : Step) → v.step ≡ Some step → step.from < length visits → Linked visits ws
    → Linked (visits ++ (v ∷ [])) (ws ++ ((word_at ws step.from ++ (step.key ∷ [])) ∷ []))
linked_new visits ws v step is h d =
    let w = word_at ws step.from ++ (step.key ∷ []) in
    let longer = ws ++ (w ∷ []) in
    let n = d.long in
    let last : word_at longer (length visits) ≡ word_at longer step.from ++ (step.key ∷ []) =
    subst (λ z. word_at longer z ≡ w) n (word_new ws w) ∙ ap (λ (z : Word). z ++ (step.key ∷ [])) (sym (word_old ws w step.from (omega (arith, n, h)))) in
    record {
      long = omega (arith, n, length_push ws w, length_push visits v);
      some = omega (arith, length_push visits v);
      spelt = each_pushed begin_visit (λ p v. Spelt longer p v.step) visits v
          (λ p l. spelt_longer ws w p (visit_at visits p).step (omega (arith, n, l)) (d.spelt p l))
          (subst (Spelt longer (length visits)) (sym is) (h, last));
    }

pub paired_new : (k : ℕ) (a b : List ℕ) (visits : List Visit) (ws : List Word) (v : Visit) (w : Word) → length ws ≡ length visits → v.pair.one.0 ≡ walk k a 0 w → v.pair.other.0 ≡ walk k b 0 w → Paired k a b visits ws → Paired k a b (visits ++ (v ∷ [])) (ws ++ (w ∷ []))
paired_new k a b visits ws v w n one other d =
    let longer = ws ++ (w ∷ []) in
    let last : w ≡ word_at longer (length visits) = sym (subst (λ z. word_at longer z ≡ w) n (word_new ws w)) in
    record {
      one_is = each_pushed begin_visit (λ p v. v.pair.one.0 ≡ walk k a 0 (word_at longer p)) visits v (λ p l. d.one_is p l ∙ ap (walk k a 0) (sym (word_old ws w p (omega (arith, n, l))))) (one ∙ ap (walk k a 0) last);
      other_is = each_pushed begin_visit (λ p v. v.pair.other.0 ≡ walk k b 0 (word_at longer p)) visits v (λ p l. d.other_is p l ∙ ap (walk k b 0) (sym (word_old ws w p (omega (arith, n, l))))) (other ∙ ap (walk k b 0) last);
    }

-- The last key of a visit's word, read back.
pub read_back :
    {visits : List Visit} {ws : List Word} (p : ℕ) (step : Step) (rest : Word) → (visit_at visits p).step ≡ Some step → p < length visits → Linked visits ws
    → (step.from < p) × (word_at ws step.from ++ reverse (rest ++ (step.key ∷ [])) ≡ word_at ws p ++ reverse rest)
read_back {ws = ws} p step rest is l d =
    let spelt = subst (Spelt ws p) is (d.spelt p l) in (
      spelt.0,
      ap (λ (z : Word). word_at ws step.from ++ z) (reverse-append rest (step.key ∷ []))
          ∙ (sym (append_assoc (word_at ws step.from) (step.key ∷ []) (reverse rest)) ∙ ap (λ (z : Word). z ++ reverse rest) (sym spelt.1)),
    )

-- All of it is read back where no step leads.
pub read_all :
    {visits : List Visit} {ws : List Word} (p : ℕ) (rest whole : Word) → (visit_at visits p).step ≡ None → p < length visits → Linked visits ws → word_at ws p ++ reverse rest ≡ whole
    → reverse rest ≡ whole
read_all {ws = ws} p rest whole is l d h = ap (λ (z : Word). z ++ reverse rest) (sym (subst (Spelt ws p) is (d.spelt p l)).1) ∙ h
