-- A listing grows by one look at a time.
use Rattle.std.proofs.Common.{◌≡◌, ℕ, suc, zero, ◌+◌, ◌<◌, ◌≤◌, Bool, true, false, not, ltb, List, [], ◌∷◌, ◌++◌, map, length, get_or, take, Option, Some, None, vec_items, Decides, sym, refl, ap, ◌∙◌, subst, inl, inr, add-suc, arith, length-take}
use Rattle.std.specs.Bool.{then_some}
use Rattle.std.specs.List.{slice_get}
use Rattle.std.specs.Option.{option_map}
use Rattle.std.proofs.lemmas.List.{length_push, map_push, length-map, take_all, take-append-le, get_or_append_left, get_or_push}
use Rattle.std.proofs.lemmas.Bool.{cases_lt, lt-ltb, le-ltb, cond-true, cond-false, false≢true}
use Rattle.verdicts.specs.declared.listing.Listing.{Listing}
use Rattle.verdicts.specs.Listings.{Failing, none, holds, fails, noted, Noted, Looked, begun, further, Checks, Head, Lists}

-- A count grows by one at most.
pub noted_few : {T : Type 0} (most : ℕ) (o : Option T) (l : List T) (c : ℕ) (more : List T) (d : ℕ) (known i : ℕ) → Noted most o l c more d → c ≤ known + i → d ≤ known + (i + 1)
noted_few most None l c more d known i h few = omega (arith, h.1, few)
noted_few most (Some x) l c more d known i h few = omega (arith, h.1, few)

pub failing_few : {Good : ℕ → Type 0} {n : ℕ} {l : List ℕ} → Failing Good n l → length l ≤ n
failing_few none = omega arith
failing_few (holds f g) = omega (arith, failing_few f)
failing_few (fails {n} {l} f g) = omega (arith, failing_few f, length_push l n)

-- Where none fails, all are good.
pub all_good : {Good : ℕ → Type 0} {n : ℕ} {l : List ℕ} → Failing Good n l → length l ≡ 0 → (i : ℕ) → i < n → Good i
all_good none e i h = absurd (omega (arith, h))
all_good {Good} (holds {n} f g) e i h = elim (cases_lt i n) [ inl l ↦ all_good f e i l | inr l ↦ subst Good (omega (arith, h, l)) g ]
all_good (fails {n} {l} f g) e i h = absurd (omega (arith, e, length_push l n))

-- The first that fails, and that all before it are good.
pub first_fails : {Good : ℕ → Type 0} {n : ℕ} {l : List ℕ} → Failing Good n l → 0 < length l → (get_or l 0 0 < n) × (Good (get_or l 0 0) → ⊥) × ((i : ℕ) → i < get_or l 0 0 → Good i)
first_fails none h = absurd (omega (arith, h))
first_fails (holds {n} f g) h = let rest = first_fails f h in (omega (arith, rest.0), rest.1, rest.2)
first_fails {Good} (fails {n} {l} f g) h =
    elim (cases_lt 0 (length l)) [
      | inl some ↦
          let rest = first_fails f some in
          let same = get_or_append_left l (n ∷ []) 0 0 some in
          (omega (arith, rest.0, same), λ b. rest.1 (subst Good same b), λ i k. rest.2 i (omega (arith, k, same)))
      | inr few ↦
          let here = get_or_push l n 0 0 (omega (arith, few)) in
          (omega (arith, here), λ b. g (subst Good here b), λ i k. all_good f (omega (arith, few)) i (omega (arith, k, here)))
    ]

-- What a check says of a number where it names a thing just if a test fails.
pub check_by : {T : Type 0} (at : ℕ → T) (Good : ℕ → Type 0) (i : ℕ) (b : Bool) (x : T) (o : Option T) → Decides b (Good i) → x ≡ at i → o ≡ then_some (not b) x → Checks at Good i o
check_by at Good i true x o d e h = subst (Checks at Good i) (sym h) (d.0 refl)
check_by at Good i false x o d e h = subst (Checks at Good i) (sym h) ((λ g. false≢true (d.1 g)), e)

module _ {T : Type 0} (at : ℕ → T) (Good : ℕ → Type 0) (most : ℕ) where
  -- The first few things of a list with one more at its end.
  take_noted : (l : List ℕ) (n : ℕ) → map at (take most (l ++ (n ∷ []))) ≡ noted most (map at (take most l)) (at n)
  take_noted l n =
      let size = length-map (take most l) at in
      elim (cases_lt (length l) most) [
        | inl h ↦
            let whole = take_all most l (omega (arith, h)) in
            ap (map at) (take_all most (l ++ (n ∷ [])) (omega (arith, h, length_push l n))) ∙ (map_push at l n ∙ (ap (λ z. map at z ++ (at n ∷ [])) (sym whole)
            ∙ sym (cond-true (ltb (length (map at (take most l))) most) _ _ (lt-ltb (length (map at (take most l))) most (omega (arith, h, size, ap length whole))))))
        | inr h ↦ ap (map at) (take-append-le most l (n ∷ []) h) ∙ sym (cond-false (ltb (length (map at (take most l))) most) _ _ (le-ltb (length (map at (take most l))) most (omega (arith, h, size, length-take most l))))
      ]

  -- The numbers below n were looked at.
  pub record Seen (n : ℕ) (l : List T) (c : ℕ) : Type 0 where
    pub all : List ℕ
    pub failing : Failing Good n all
    pub first : l ≡ map at (take most all)
    pub count : c ≡ length all

  seen_more : (n : ℕ) (o : Option T) (l : List T) (c : ℕ) (more : List T) (d : ℕ) → Seen n l c → Checks at Good n o → Noted most o l c more d → Seen (suc n) more d
  seen_more n None l c more d s good k = record { all = s.all; failing = holds s.failing good; first = k.0 ∙ s.first; count = k.1 ∙ s.count }
  seen_more n (Some x) l c more d s bad k = record {
    all = s.all ++ (n ∷ []);
    failing = fails s.failing bad.0;
    first = k.0 ∙ (ap (λ z. noted most z x) s.first ∙ (ap (noted most (map at (take most s.all))) bad.1 ∙ sym (take_noted s.all n)));
    count = omega (arith, k.1, s.count, length_push s.all n);
  }

  seen_looked : {R : ℕ → Option T → Type 0} {before : List T} {known n c : ℕ} {l : List T} (start : ℕ) → Seen start before known → ((i : ℕ) (o : Option T) → i < n → R i o → Checks at Good (start + i) o) → Looked most R before known n l c → Seen (start + n) l c
  seen_looked {R} {before} {known} start s says begun = subst (λ z. Seen z before known) (omega arith) s
  seen_looked {R} {before} {known} start s says (further {n} {c} {d} {l} {more} {o} sofar r k) =
      subst (λ z. Seen z more d) (sym (add-suc start n)) (seen_more (start + n) o l c more d (seen_looked start s (λ i o h. says i o (omega (arith, h))) sofar) (says n o (omega arith) r) k)

  pub lists_looked : {R : ℕ → Option T → Type 0} (start n : ℕ) (before after : Listing T) → Lists at Good start most before → ((i : ℕ) (o : Option T) → i < n → R i o → Checks at Good (start + i) o)
      → Looked most R (vec_items before.first) before.count n (vec_items after.first) after.count → Lists at Good (start + n) most after
  lists_looked start n before after h says k =
      let s = seen_looked start (record { all = h.all; failing = h.failing; first = h.first; count = h.count }) says k in
      record { all = s.all; failing = s.failing; first = s.first; count = s.count }

  pub lists_none : (l : Listing T) → vec_items l.first ≡ [] → l.count ≡ 0 → Lists at Good 0 most l
  lists_none l f c = record { all = []; failing = none; first = f ∙ ap (map at) (sym (take_all most [] (omega arith))); count = c }

  -- All numbers were looked at, from nothing on.
  pub lists_of : {R : ℕ → Option T → Type 0} (n : ℕ) (l : Listing T) → ((i : ℕ) (o : Option T) → i < n → R i o → Checks at Good i o) → Looked most R [] 0 n (vec_items l.first) l.count → Lists at Good n most l
  lists_of n l says k =
      let begin : Seen 0 [] 0 = record { all = []; failing = none; first = ap (map at) (sym (take_all most [] (omega arith))); count = refl } in
      let s = subst (λ z. Seen z (vec_items l.first) l.count) (omega arith) (seen_looked 0 begin (λ i o h r. subst (λ z. Checks at Good z o) (omega arith) (says i o h r)) k) in
      record { all = s.all; failing = s.failing; first = s.first; count = s.count }

  pub lists_few : (n : ℕ) (l : Listing T) → Lists at Good n most l → l.count ≤ n
  lists_few n l h = omega (arith, h.count, failing_few h.failing)

  head_at : (n : ℕ) (all : List ℕ) → 0 < n → slice_get (map at (take n all)) 0 ≡ option_map at (slice_get all 0)
  head_at zero all h = absurd (omega (arith, h))
  head_at (suc n) [] h = refl
  head_at (suc n) (x ∷ all) h = refl

  none_left : (all : List ℕ) → None ≡ option_map at (slice_get all 0) → length all ≡ 0
  none_left [] e = refl
  none_left (x ∷ all) e = absurd (cc)

  -- A listing with no things: all are good.
  pub lists_empty : (n : ℕ) (l : Listing T) → 0 < most → Lists at Good n most l → Head (vec_items l.first) None → (i : ℕ) → i < n → Good i
  lists_empty n l some h e = all_good h.failing (none_left h.all (e ∙ (ap (λ z. slice_get z 0) h.first ∙ head_at most h.all some)))

  first_left : (x : T) (all : List ℕ) → Some x ≡ option_map at (slice_get all 0) → (0 < length all) × (x ≡ at (get_or all 0 0))
  first_left x [] e = absurd (cc)
  first_left x (y ∷ all) e = (omega arith, cc)

  -- The first thing of a listing stands at the first number that is not good.
  pub lists_head : (n : ℕ) (l : Listing T) (x : T) → 0 < most → Lists at Good n most l → Head (vec_items l.first) (Some x) → (i : ℕ) × (x ≡ at i) × (i < n) × (Good i → ⊥) × ((j : ℕ) → j < i → Good j)
  lists_head n l x some h e =
      let left = first_left x h.all (e ∙ (ap (λ z. slice_get z 0) h.first ∙ head_at most h.all some)) in
      let found = first_fails h.failing left.0 in
      (get_or h.all 0 0, left.1, found.0, found.1, found.2)
