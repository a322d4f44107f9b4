-- Answers that tell nothing apart, found by their order.
use Rattle.std.proofs.Common.{Bool, true, false, not, eqb, Option, Some, None, ◌≡◌, ℕ, ◌<◌, ◌≤◌, List, ◌++◌, length, get_or, take, drop, ◌+◌, ◌-◌, sym, refl, ap, ◌∙◌, subst, inl, inr, length-drop, arith}
use Rattle.std.proofs.lemmas.List.Prefix.{front_rest}
use Rattle.std.proofs.lemmas.List.{append_cancel_left, take_rest, get_or-drop}
use Rattle.std.proofs.lemmas.Bool.{cases_eq, cases_order, eqb-true, eq-eqb, false≢true}
use Rattle.std.specs.Bool.{then_some}
use Rattle.machines.specs.Words.{Word, Before}
use Rattle.machines.specs.Answers.{Told, ToldApart}
use Rattle.machines.proofs.Alphabet.{before_asym, before_irrefl, front_first, behind_all}
use Rattle.answers.specs.declared.apart.Apart.{Apart}
use Rattle.verdicts.specs.Orders.{word_at, shown_at, Sorted, Indexed, Placed, StandsAt, FirstAt, FirstSaid, Found, Other, BothFirst}

-- A word stands at one place only.
pub same_place : (answers : List Told) (order : List ℕ) (w : Word) (p q : ℕ) → Sorted answers order → StandsAt answers order w p → StandsAt answers order w q → p ≡ q
same_place answers order w p q sorted a b =
    elim (cases_order p q) [
      | inl e ↦ e
      | inr (inl l) ↦ absurd (before_irrefl w (subst (λ z. Before z w) a.1 (subst (Before (word_at answers (get_or order p 0))) b.1 (sorted.rising p q l b.0))))
      | inr (inr l) ↦ absurd (before_irrefl w (subst (λ z. Before z w) b.1 (subst (Before (word_at answers (get_or order q 0))) a.1 (sorted.rising q p l a.0))))
    ]

-- What stands in the order is the first answer to its word.
pub first_in_order : (answers : List Told) (order : List ℕ) (p : ℕ) → Indexed answers order → p < length order → FirstAt answers (get_or order p 0)
first_in_order answers order p o h j l e = omega (arith, l, o.first p j h (omega (arith, l, o.early p h)) e)

-- The first answer to a word stands in the order.
pub place_of_first : (answers : List Told) (order : List ℕ) (i : ℕ) → Indexed answers order → i < length answers → FirstAt answers i → (p : ℕ) × (p < length order) × (get_or order p 0 ≡ i)
place_of_first answers order i o h first =
    let place = o.every i h in
    let late = o.first place.0 i place.1 h (sym place.2) in
    (place.0, place.1, elim (cases_eq (get_or order place.0 0) i) [ inl e ↦ e | inr ne ↦ absurd (first (get_or order place.0 0) (omega (arith, late, ne)) place.2) ])

module _ (answers : List Told) (order : List ℕ) (w : Word) where
  -- Where no answer to w is found, no first answer to it says anything else.
  pub other_none : (m : ℕ) → Indexed answers order → Found answers order w None → Other answers w m None
  other_none m o missing n s =
      let place = place_of_first answers order s.0 o s.1 s.4 in
      absurd (missing place.0 (place.1, ap (word_at answers) place.2 ∙ s.2))

  -- The answer to w that is found is the only first answer to it.
  only_first : (j : ℕ) → Indexed answers order → Found answers order w (Some j) → (n : ℕ) → FirstSaid answers w n → n ≡ shown_at answers j
  only_first j o found n s =
      let place = place_of_first answers order s.0 o s.1 s.4 in
      let at = found.2 in
      let same = same_place answers order w place.0 at.0 o.sorted (place.1, ap (word_at answers) place.2 ∙ s.2) (at.1, ap (word_at answers) at.2 ∙ found.1) in
      sym s.3 ∙ ap (shown_at answers) (sym place.2 ∙ (ap (λ (z : ℕ). get_or order z 0) same ∙ at.2))

  pub other_found : (i j : ℕ) → Indexed answers order → Found answers order w (Some j) → (a b : ℕ) (r : Option ℕ) → a ≡ shown_at answers i → b ≡ shown_at answers j
      → (t : Bool) → t ≡ eqb a b → r ≡ then_some (not t) j → Other answers w (shown_at answers i) r
  other_found i j o found a b r ea eb true e h =
      subst (Other answers w (shown_at answers i)) (sym h) (λ n s. only_first j o found n s ∙ (sym eb ∙ (sym (eqb-true a b (sym e)) ∙ ea)))
  other_found i j o found a b r ea eb false e h =
      subst (Other answers w (shown_at answers i)) (sym h)
      (found.0, found.1, λ same. false≢true (e ∙ eq-eqb a b (ea ∙ (same ∙ sym eb))), subst (FirstAt answers) found.2.2 (first_in_order answers order found.2.0 o found.2.1))

-- The answer at place q of the order has no partner: whatever follows u in its word, the first answer with the same behind v says what it says.
abbrev pub Quiet : List Told → List ℕ → Word → Word → ℕ → Type 0
Quiet answers order u v q = (x : Word) → word_at answers (get_or order q 0) ≡ u ++ x → (n : ℕ) → FirstSaid answers (v ++ x) n → n ≡ shown_at answers (get_or order q 0)

-- A place before that of u is quiet, since no word there begins with u.
pub quiet_before : (answers : List Told) (order : List ℕ) (u v : Word) (p : ℕ) → Placed answers order u p → (q : ℕ) → q < p → Quiet answers order u v q
quiet_before answers order u v p placed q h x e = absurd (front_first u x (subst (λ z. Before z u) e (placed.below q h)))

-- From a place on at which the word does not begin with u all places are quiet.
pub quiet_after : (answers : List Told) (order : List ℕ) (u v : Word) (start p : ℕ) → Sorted answers order → Placed answers order u start → start ≤ p → p < length order
    → ((x : Word) → word_at answers (get_or order p 0) ≡ u ++ x → ⊥) → (q : ℕ) → p ≤ q → q < length order → Quiet answers order u v q
quiet_after answers order u v start p sorted placed s h other q l hq x e =
    absurd (elim (cases_eq p q) [
      | inl same ↦ other x (ap (λ (z : ℕ). word_at answers (get_or order z 0)) same ∙ e)
      | inr ne ↦
          let behind = behind_all u (word_at answers (get_or order p 0)) (λ b. placed.above p s h b) other x in
          before_asym (u ++ x) (word_at answers (get_or order p 0)) behind (subst (Before (word_at answers (get_or order p 0))) e (sorted.rising p q (omega (arith, l, ne)) hq))
    ])

-- A place is quiet if nothing else was said of v with what follows u in its word.
pub quiet_here : (answers : List Told) (order : List ℕ) (u v x : Word) (p : ℕ) → word_at answers (get_or order p 0) ≡ u ++ x
    → ((n : ℕ) → FirstSaid answers (v ++ x) n → n ≡ shown_at answers (get_or order p 0)) → Quiet answers order u v p
quiet_here answers order u v x p e none y f n s =
    none n (subst (λ z. FirstSaid answers (v ++ z) n) (append_cancel_left u y x (sym f ∙ e)) s)

-- Where all places are quiet, no first answers tell u and v apart.
pub all_quiet : (answers : List Told) (order : List ℕ) (u v : Word) → Indexed answers order → ((q : ℕ) → q < length order → Quiet answers order u v q) → ToldApart (FirstSaid answers) u v → ⊥
all_quiet answers order u v o quiet t =
    let left = t.left_said in
    let place = place_of_first answers order left.0 o left.1 left.4 in
    let word = ap (word_at answers) place.2 ∙ left.2 in
    t.differ (sym (quiet place.0 place.1 t.behind word t.right t.right_said ∙ (ap (shown_at answers) place.2 ∙ left.3)))

-- The evidence for v and u, turned round.
pub turned : (answers : List Told) (u v : Word) (e : Apart) → BothFirst answers v u e → BothFirst answers u v (record { left = e.right; right = e.left; from = length u })
turned answers u v e b =
    let h = b.evidence in
    let a = h.apart.alike in
    let behind = front_rest (word_at answers e.right) u (drop (length v) (word_at answers e.left)) a.right in
    record {
      evidence = record {
        left_in = h.right_in;
        right_in = h.left_in;
        apart = record {
          alike = record { left = a.right ∙ ap (λ z. u ++ z) (sym behind); right = a.left ∙ ap (λ z. v ++ z) (sym behind) };
          differ = λ d. h.apart.differ (sym d);
        };
        behind = refl;
      };
      left_first = b.right_first;
      right_first = b.left_first;
    }

-- What tells v and u apart tells u and v apart.
pub apart_sym : {says : Word → ℕ → Type 0} {u v : Word} → ToldApart says u v → ToldApart says v u
apart_sym t = record { behind = t.behind; left = t.right; right = t.left; left_said = t.right_said; right_said = t.left_said; differ = λ e. t.differ (sym e) }

-- Two first answers that tell words apart do so.
pub both_first_apart : (answers : List Told) (u v : Word) (e : Apart) → BothFirst answers u v e → ToldApart (FirstSaid answers) u v
both_first_apart answers u v e b =
    let h = b.evidence in
    record {
      behind = drop (length u) (word_at answers e.left);
      left = shown_at answers e.left;
      right = shown_at answers e.right;
      left_said = (e.left, h.left_in, h.apart.alike.left, refl, b.left_first);
      right_said = (e.right, h.right_in, h.apart.alike.right, refl, b.right_first);
      differ = h.apart.differ;
    }

-- What stands at a place of the order, counted from another place on.
pub from_place : (slice order : List ℕ) (start i : ℕ) → slice ≡ order → get_or (take (length slice - start) (drop start slice)) i 0 ≡ get_or order (start + i) 0
from_place slice order start i e =
    ap (λ (l : List ℕ). get_or l i 0) (take_rest slice start) ∙ (get_or-drop start slice i 0 ∙ ap (λ (l : List ℕ). get_or l (start + i) 0) e)

pub places_left : (slice order : List ℕ) (start : ℕ) → slice ≡ order → length (take (length slice - start) (drop start slice)) ≡ length order - start
places_left slice order start e = ap length (take_rest slice start) ∙ (length-drop start slice ∙ ap (λ (l : List ℕ). length l - start) e)
