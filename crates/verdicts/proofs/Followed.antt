-- Words that begin with another, and the best of those that lead to a row.
use Rattle.std.proofs.Common.{◌≡◌, ℕ, ◌+◌, ◌-◌, ◌<◌, ◌≤◌, ◌⊎◌, List, [], ◌++◌, length, get_or, drop, Bool, true, false, not, Some, None, Option, MatchOption, MatchBool, sym, refl, ap, ◌∙◌, subst, inl, inr, append-nil, length-drop, arith}
use Rattle.std.specs.List.{AllWithin, HoldsAt}
use Rattle.std.specs.Option.{unwrap_or}
use Rattle.std.proofs.lemmas.List.{get_or-drop}
use Rattle.std.proofs.lemmas.Bool.{cases_eq, cases_lt, cases_order, false≢true}
use Rattle.machines.specs.Words.{Word, Before}
use Rattle.machines.specs.Tables.{Table}
use Rattle.machines.specs.Answers.{Told}
use Rattle.machines.proofs.Alphabet.{before_irrefl, before_asym, front_first, behind_all}
use Rattle.machines.proofs.Shortlex.{less_trans, less_irrefl}
use Rattle.verdicts.specs.declared.choice.Candidate.{Candidate}
use Rattle.verdicts.specs.Choices.{LeadsHere, Followers, Better, Best, CandidateFor, PlacedIn, BetterOf}
use Rattle.verdicts.specs.Orders.{word_at, Sorted}

pub leaves_by : (v w u : Word) (b : Bool) → v ≡ w → (b ≡ true → v ≡ u ++ drop (length u) v) × ((x : Word) → v ≡ u ++ x → b ≡ true) → MatchBool (not b) ((x : Word) → w ≡ u ++ x → ⊥) ((x : Word) × (w ≡ u ++ x))
leaves_by v w u true e h = (drop (length u) v, sym e ∙ h.0 refl)
leaves_by v w u false e h = λ x f. false≢true (h.1 x (e ∙ f))

module _ (answers : List Told) (order : List ℕ) where
  abbrev at_place : ℕ → Word
  at_place q = word_at answers (get_or order q 0)

  -- A run of words that begin with the first of them has all that do, if it goes to the end or is followed by one that does not.
  pub followers_run : (p e : ℕ) → Sorted answers order → p < length order → p ≤ e → e ≤ length order
      → ((q : ℕ) → p ≤ q → q < e → (x : Word) × (word_at answers (get_or order q 0) ≡ word_at answers (get_or order p 0) ++ x))
      → (length order ≤ e) ⊎ ((x : Word) → word_at answers (get_or order e 0) ≡ word_at answers (get_or order p 0) ++ x → ⊥)
      → Followers answers order p (e - p)
  followers_run p e sorted hp le he run stop = record {
    fits = omega arith;
    inside = λ q l h. run q l (omega (arith, h, le));
    all = λ q x h eq. (
      elim (cases_lt q p) [
        | inl l ↦ absurd (front_first (at_place p) x (subst (λ z. Before z (at_place p)) eq (sorted.rising q p l hp)))
        | inr l ↦ l
      ],
      elim (cases_lt q e) [
        | inl l ↦ omega (arith, l, le)
        | inr l ↦ absurd (elim stop [ inl end ↦ omega (arith, end, l, h) | inr other ↦ beyond q x h l eq other ])
      ],
    );
  }
    where
      beyond : (q : ℕ) (x : Word) → q < length order → e ≤ q → word_at answers (get_or order q 0) ≡ word_at answers (get_or order p 0) ++ x → ((y : Word) → word_at answers (get_or order e 0) ≡ word_at answers (get_or order p 0) ++ y → ⊥) → ⊥
      beyond q x h l eq other = elim (cases_eq p e) [
        | inl same ↦ other [] (ap (λ (z : ℕ). word_at answers (get_or order z 0)) (sym same) ∙ sym (append-nil (word_at answers (get_or order p 0))))
        | inr ne ↦
            let after = sorted.rising p e (omega (arith, ne, le)) (omega (arith, l, h)) in
            let behind = behind_all (word_at answers (get_or order p 0)) (word_at answers (get_or order e 0)) (λ b. before_asym (word_at answers (get_or order p 0)) (word_at answers (get_or order e 0)) after b) other x in
            elim (cases_eq e q) [
              | inl same ↦ other x (ap (λ (z : ℕ). word_at answers (get_or order z 0)) same ∙ eq)
              | inr nq ↦ before_asym (word_at answers (get_or order p 0) ++ x) (word_at answers (get_or order e 0)) behind (subst (Before (word_at answers (get_or order e 0))) eq (sorted.rising e q (omega (arith, l, nq)) h))
            ]
      ]

  read_at : (p : ℕ) (rest : List ℕ) (q : ℕ) → rest ≡ drop p order → p ≤ q → get_or rest (q - p) 0 ≡ get_or order q 0
  read_at p rest q e l = ap (λ (l : List ℕ). get_or l (q - p) 0) e ∙ (get_or-drop p order (q - p) 0 ∙ ap (λ (z : ℕ). get_or order z 0) (omega (arith, l)))

  -- The same, where a search through the rest of the order found the first that does not begin so.
  pub followers_found : (p : ℕ) (rest : List ℕ) (r : Option ℕ) (n : ℕ) → Sorted answers order → p < length order → rest ≡ drop p order
      → MatchOption r (AllWithin (λ (i : ℕ). (x : Word) × (word_at answers i ≡ at_place p ++ x)) rest 0 (length rest))
      (λ i. (i < length rest) × HoldsAt (λ (i : ℕ). (x : Word) → word_at answers i ≡ at_place p ++ x → ⊥) rest i × AllWithin (λ (i : ℕ). (x : Word) × (word_at answers i ≡ at_place p ++ x)) rest 0 i)
      → n ≡ unwrap_or r (length rest) → Followers answers order p n
  followers_found p rest None n sorted hp e h same =
      let long : length rest ≡ length order - p = ap length e ∙ length-drop p order in
      subst (Followers answers order p) (omega (arith, same, long)) (followers_run p (length order) sorted hp (omega arith) (omega arith)
      (λ q l k. subst (λ (i : ℕ). (x : Word) × (word_at answers i ≡ at_place p ++ x)) (read_at p rest q e l) (h (q - p) 0 (omega arith) (omega (arith, l, k, long)))) (inl (omega arith)))
  followers_found p rest (Some i) n sorted hp e h same =
      let long : length rest ≡ length order - p = ap length e ∙ length-drop p order in
      subst (Followers answers order p) (omega (arith, same)) (followers_run p (p + i) sorted hp (omega arith) (omega (arith, long, h.0))
      (λ q l k. subst (λ (i : ℕ). (x : Word) × (word_at answers i ≡ at_place p ++ x)) (read_at p rest q e l) (h.2 (q - p) 0 (omega arith) (omega (arith, l, k))))
      (inr (subst (λ (i : ℕ). (x : Word) → word_at answers i ≡ at_place p ++ x → ⊥) (ap (λ (l : List ℕ). get_or l i 0) e ∙ get_or-drop p order i 0) (h.1 0))))

  -- How many words begin with one is one number.
  followers_less : (p m n : ℕ) → Followers answers order p m → Followers answers order p n → m < n → ⊥
  followers_less p m n a b l =
      let next = b.inside (p + m) (omega arith) (omega (arith, l)) in
      omega (arith, (a.all (p + m) next.0 (omega (arith, l, b.fits)) next.1).1)

  pub followers_one : (p m n : ℕ) → Followers answers order p m → Followers answers order p n → m ≡ n
  followers_one p m n a b = elim (cases_order m n) [
    | inl e ↦ e
    | inr (inl l) ↦ absurd (followers_less p m n a b l)
    | inr (inr l) ↦ absurd (followers_less p n m b a l)
  ]

  -- Of equally long words the first in the order is the first.
  pub place_decides : (a b : ℕ) → Sorted answers order → a < length order → b < length order → Before (word_at answers (get_or order a 0)) (word_at answers (get_or order b 0)) → a < b
  place_decides a b sorted ha hb h = elim (cases_order a b) [
    | inl e ↦ absurd (before_irrefl (word_at answers (get_or order b 0)) (subst (λ z. Before (word_at answers (get_or order z 0)) (word_at answers (get_or order b 0))) e h))
    | inr (inl l) ↦ l
    | inr (inr l) ↦ absurd (before_asym (word_at answers (get_or order a 0)) (word_at answers (get_or order b 0)) h (sorted.rising b a l ha))
  ]

  better_trans : (q g n f p m : ℕ) → Better answers order q g n f → Better answers order n f p m → Better answers order q g p m
  better_trans q g n f p m (inl a) (inl b) = inl (omega (arith, a, b))
  better_trans q g n f p m (inl a) (inr b) = inl (omega (arith, a, b.0))
  better_trans q g n f p m (inr a) (inl b) = inl (omega (arith, a.0, b))
  better_trans q g n f p m (inr a) (inr b) = inr (a.0 ∙ b.0, less_trans _ _ _ a.1 b.1)

  better_irrefl : (p m : ℕ) → Better answers order p m p m → ⊥
  better_irrefl p m (inl a) = omega (arith, a)
  better_irrefl p m (inr a) = less_irrefl _ a.1

  module _ (k : ℕ) (t : Table) (row n : ℕ) where
    abbrev here : ℕ → Type 0
    here q = LeadsHere k t row (word_at answers (get_or order q 0))

    -- One place more of which nothing goes before the best.
    further : (p m : ℕ) → p < n + 1 → LeadsHere k t row (word_at answers (get_or order p 0)) → Followers answers order p m
        → ((q f : ℕ) → q < n → LeadsHere k t row (word_at answers (get_or order q 0)) → Followers answers order q f → Better answers order q f p m → ⊥)
        → ((f : ℕ) → LeadsHere k t row (word_at answers (get_or order n 0)) → Followers answers order n f → Better answers order n f p m → ⊥) → Best k t answers order row (n + 1) p m
    further p m within leads followers earlier last = record {
      place_in = within;
      leads = leads;
      followers = followers;
      first = λ q f h l w b. elim (cases_lt q n) [
        | inl lt ↦ earlier q f lt l w b
        | inr ge ↦
            let same : q ≡ n = omega (arith, h, ge) in
            last f (subst here same l) (subst (λ z. Followers answers order z f) same w) (subst (λ z. Better answers order z f p m) same b)
      ];
    }

    pub best_first : (m : ℕ) → ((p : ℕ) → p < n → LeadsHere k t row (word_at answers (get_or order p 0)) → ⊥) → LeadsHere k t row (word_at answers (get_or order n 0)) → Followers answers order n m → Best k t answers order row (n + 1) n m
    best_first m never leads w = further n m (omega arith) leads w (λ q f h l. absurd (never q h l)) (λ f l v b. better_irrefl n m (subst (λ z. Better answers order n z n m) (followers_one n f m v w) b))

    pub best_takes : (p m f : ℕ) → Best k t answers order row n p m → LeadsHere k t row (word_at answers (get_or order n 0)) → Followers answers order n f → Better answers order n f p m → Best k t answers order row (n + 1) n f
    best_takes p m f b leads w new =
        further n f (omega arith) leads w (λ q g h l v before. b.first q g h l v (better_trans q g n f p m before new)) (λ g l v before. better_irrefl n f (subst (λ z. Better answers order n z n f) (followers_one n g f v w) before))

    pub best_keeps : (p m f : ℕ) → Best k t answers order row n p m → Followers answers order n f → (Better answers order n f p m → ⊥) → Best k t answers order row (n + 1) p m
    best_keeps p m f b w not = further p m (omega (arith, b.place_in)) b.leads b.followers b.first (λ g l v before. not (subst (λ z. Better answers order n z p m) (followers_one n g f v w) before))

    pub best_skips : (p m : ℕ) → Best k t answers order row n p m → (LeadsHere k t row (word_at answers (get_or order n 0)) → ⊥) → Best k t answers order row (n + 1) p m
    best_skips p m b no_lead = further p m (omega (arith, b.place_in)) b.leads b.followers b.first (λ f l. absurd (no_lead l))

    -- A place whose word does not lead to the row changes nothing.
    pub candidate_skips : (o : Option Candidate) → CandidateFor k t answers order row n o → (LeadsHere k t row (word_at answers (get_or order n 0)) → ⊥) → CandidateFor k t answers order row (n + 1) o
    candidate_skips None never none_here = λ p h l. elim (cases_lt p n) [ inl lt ↦ never p lt l | inr ge ↦ none_here (subst here (omega (arith, h, ge)) l) ]
    candidate_skips (Some c) best none_here = best_skips c.place c.followers best none_here

    -- The better of the best so far and the next.
    pub candidate_takes : (o : Option Candidate) (f : ℕ) (c : Candidate) → CandidateFor k t answers order row n o → LeadsHere k t row (word_at answers (get_or order n 0)) → Followers answers order n f
        → BetterOf answers order o (record { place = n; followers = f }) c → CandidateFor k t answers order row (n + 1) (Some c)
    candidate_takes None f c never leads w e = subst (λ z. CandidateFor k t answers order row (n + 1) (Some z)) (sym e) (best_first f never leads w)
    candidate_takes (Some old) f c best leads w (inl e) = subst (λ z. CandidateFor k t answers order row (n + 1) (Some z)) (sym e.0) (best_takes old.place old.followers f best leads w e.1)
    candidate_takes (Some old) f c best leads w (inr e) = subst (λ z. CandidateFor k t answers order row (n + 1) (Some z)) (sym e.0) (best_keeps old.place old.followers f best w e.1)

    -- A candidate is at a place of the order.
    pub candidate_placed : (o : Option Candidate) → n < length order → CandidateFor k t answers order row n o → PlacedIn order o
    candidate_placed None h c = tt
    candidate_placed (Some c) h best = omega (arith, h, best.place_in)
