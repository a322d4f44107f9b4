-- From all that was looked at to a table that is borne out.
use Rattle.std.proofs.Common.{◌≡◌, ℕ, zero, suc, ◌+◌, ◌*◌, ◌<◌, ◌⊎◌, List, [], length, get_or, sym, refl, ap, ◌∙◌, subst, inl, inr, arith}
use Rattle.std.proofs.lemmas.Nat.{mul-add-lt}
use Rattle.std.proofs.lemmas.Bool.{cases_lt, cases_order}
use Rattle.machines.specs.Words.{Word, Keys}
use Rattle.machines.specs.Tables.{shows}
use Rattle.machines.specs.Answers.{Told, Said, Single, OfKeys, Agrees, ToldApart, AllApart}
use Rattle.machines.specs.Borne.{IsBorneOut, Leads}
use Rattle.machines.proofs.Membership.{in-get_or, in_place}
use Rattle.machines.proofs.Leads.{borne_least, borne_right}
use Rattle.answers.specs.declared.table.Table.{Table}
use Rattle.answers.specs.Logs.{no_answer}
use Rattle.answers.specs.Values.{keys_of, rows_of, cells_of}
use Rattle.answers.proofs.Cells.{sound_of}
use Rattle.verdicts.specs.Orders.{word_at, shown_at, FirstAt, FirstSaid}
use Rattle.verdicts.specs.Faults.{Consistent, Agreed, RowFit, RowsApart, PairApart, ApartOrThere, EdgeApart}
use Rattle.verdicts.specs.Verdicts.{Borne}
use Rattle.verdicts.proofs.Kept.{same_or_not}
use Rattle.verdicts.proofs.Places.{from_pair, from_edge}
use Rattle.verdicts.proofs.Quiet.{apart_sym}

-- Among the first n answers there is a first to w, or none.
first_among : (answers : List Told) (w : Word) (n : ℕ) → ((f : ℕ) × (f < n) × (word_at answers f ≡ w) × FirstAt answers f) ⊎ ((j : ℕ) → j < n → word_at answers j ≡ w → ⊥)
first_among answers w zero = inr (λ j h e. omega (arith, h))
first_among answers w (suc n) =
    elim (first_among answers w n) [
      | inl f ↦ inl (f.0, omega (arith, f.1), f.2, f.3)
      | inr earlier ↦ elim (same_or_not (word_at answers n) w) [
        | inl e ↦ inl (n, omega arith, e, λ j h k. earlier j h (k ∙ e))
        | inr ne ↦ inr (λ j h k. elim (cases_lt j n) [ inl l ↦ earlier j l k | inr l ↦ ne (ap (word_at answers) (omega (arith, h, l)) ∙ k) ])
      ]
    ]

module _ (answers : List Told) where
  -- Each answer's word has a first answer.
  pub first_of : (i : ℕ) → i < length answers → (f : ℕ) × (f < length answers) × (word_at answers f ≡ word_at answers i) × FirstAt answers f
  first_of i h = elim (first_among answers (word_at answers i) (length answers)) [ inl f ↦ f | inr never ↦ absurd (never i h refl) ]

  pub said_at : (i : ℕ) → i < length answers → Said answers (word_at answers i) (shown_at answers i)
  said_at i h = in-get_or answers i no_answer h

  -- What the first answers say was said.
  pub first_is_said : (w : Word) (m : ℕ) → FirstSaid answers w m → Said answers w m
  first_is_said w m f = subst (λ z. Said answers z m) f.2 (subst (Said answers (word_at answers f.0)) f.3 (said_at f.0 f.1))

  module _ (consistent : (i : ℕ) → i < length answers → Consistent answers i) where
    pub said_is_first : (w : Word) (m : ℕ) → Said answers w m → FirstSaid answers w m
    said_is_first w m s =
        let at = in_place no_answer s in
        let i = at.0 in
        let word = ap (λ (z : Told). z.word) at.2 in
        let shown = ap (λ (z : Told). z.shown) at.2 in
        let f = first_of i at.1 in
        (f.0, f.1, f.2 ∙ word, consistent i at.1 (shown_at answers f.0) (f.0, f.1, f.2, refl, f.3) ∙ shown, f.3)

    -- So one thing at most was said of each word.
    pub consistent_single : Single (Said answers)
    consistent_single w m n a b =
        let at = in_place no_answer b in
        let word = ap (λ (z : Told). z.word) at.2 in
        consistent at.0 at.1 m (subst (λ z. FirstSaid answers z m) (sym word) (said_is_first w m a)) ∙ ap (λ (z : Told). z.shown) at.2

    pub apart_from_first : {u v : Word} → ToldApart (FirstSaid answers) u v → ToldApart (Said answers) u v
    apart_from_first t = record { behind = t.behind; left = t.left; right = t.right; left_said = first_is_said _ _ t.left_said; right_said = first_is_said _ _ t.right_said; differ = t.differ }

    pub apart_to_first : {u v : Word} → ToldApart (Said answers) u v → ToldApart (FirstSaid answers) u v
    apart_to_first t = record { behind = t.behind; left = t.left; right = t.right; left_said = said_is_first _ _ t.left_said; right_said = said_is_first _ _ t.right_said; differ = t.differ }

-- All that was looked at holds.
pub record AllGood (t : Table) (ws : List Word) (answers : List Told) : Type 0 where
  pub consistent : (i : ℕ) → i < length answers → Consistent answers i
  pub agreed : (i : ℕ) → i < length answers → Agreed (keys_of t) (cells_of t) answers i
  pub fit : (i : ℕ) → i < rows_of t → RowFit (keys_of t) (cells_of t) ws answers i
  pub pairs : (p : ℕ) → p < rows_of t * rows_of t → PairApart (rows_of t) ws answers p
  pub edges : (p : ℕ) → p < (rows_of t * keys_of t) * rows_of t → EdgeApart (keys_of t) (rows_of t) (cells_of t) ws answers p

module _ (t : Table) (ws : List Word) (answers : List Told) (many : length ws ≡ rows_of t) (good : AllGood t ws answers) where
  pub good_keys : OfKeys (keys_of t) (Said answers)
  good_keys w m s = let at = in_place no_answer s in subst (Keys (keys_of t)) (ap (λ (z : Told). z.word) at.2) (good.agreed at.0 at.1).0

  good_agrees : Agrees (keys_of t) (cells_of t) (Said answers)
  good_agrees w m s =
      let at = in_place no_answer s in
      ap (shows (keys_of t) (cells_of t)) (sym (ap (λ (z : Told). z.word) at.2)) ∙ ((good.agreed at.0 at.1).1 ∙ ap (λ (z : Told). z.shown) at.2)

  -- The words of a pair of rows in order.
  in_order : (i j : ℕ) → i < j → j < rows_of t → ToldApart (Said answers) (get_or ws i []) (get_or ws j [])
  in_order i j l h =
      let place : i * rows_of t + j < rows_of t * rows_of t = omega (arith, mul-add-lt i (rows_of t) j (rows_of t) (omega (arith, l, h)) h) in
      apart_from_first answers good.consistent (from_pair (RowsApart ws answers) i (rows_of t) j h (good.pairs (i * rows_of t + j) place) l)

  good_apart : AllApart (Said answers) ws
  good_apart i j hi hj ne = elim (cases_order i j) [
    | inl e ↦ absurd (ne e)
    | inr (inl l) ↦ in_order i j l (omega (arith, hj, many))
    | inr (inr l) ↦ apart_sym (in_order j i l (omega (arith, hi, many)))
  ]

  good_leads : Leads (keys_of t) (rows_of t) (cells_of t) ws (Said answers)
  good_leads i x j hi hx hj ne =
      let e = i * keys_of t + x in
      let edge : e < rows_of t * keys_of t = omega (arith, mul-add-lt i (keys_of t) x (rows_of t) hi hx) in
      let place : e * rows_of t + j < (rows_of t * keys_of t) * rows_of t = omega (arith, mul-add-lt e (rows_of t) j (rows_of t * keys_of t) edge hj) in
      apart_from_first answers good.consistent (from_edge (ApartOrThere (keys_of t) (cells_of t) ws answers) i (keys_of t) x (rows_of t) j hx hj (good.edges (e * rows_of t + j) place) ne)

  good_borne : IsBorneOut (keys_of t) (rows_of t) (cells_of t) ws (Said answers)
  good_borne = record {
    sound = sound_of t;
    agrees = good_agrees;
    as_many = many;
    keys = λ i h. (good.fit i h).keys;
    reach = λ i h. (good.fit i h).leads;
    first = (good.fit 0 t.some_rows).empty refl;
    asked = λ i h. ((good.fit i h).told.0, first_is_said answers _ _ (good.fit i h).told.1);
    apart = good_apart;
    leads = good_leads;
  }

  pub good_is_borne : Borne t ws answers
  good_is_borne = record {
    borne = good_borne;
    keys = good_keys;
    least = λ n b states right. borne_least (Said answers) (keys_of t) n (rows_of t) b (cells_of t) ws states right good_keys good_borne;
    right = λ n b states right few. borne_right (Said answers) (keys_of t) n (rows_of t) b (cells_of t) ws states right good_keys good_borne few;
  }

-- A table that is borne out by answers of its keys is good in all that is looked at.
module _ (t : Table) (ws : List Word) (answers : List Told) (b : IsBorneOut (keys_of t) (rows_of t) (cells_of t) ws (Said answers)) (keys : OfKeys (keys_of t) (Said answers)) where
  pub borne_agreed : (i : ℕ) → i < length answers → Agreed (keys_of t) (cells_of t) answers i
  borne_agreed i h = (keys _ _ (said_at answers i h), b.agrees _ _ (said_at answers i h))

  pub borne_consistent : (i : ℕ) → i < length answers → Consistent answers i
  borne_consistent i h m f = sym (b.agrees (word_at answers i) m (first_is_said answers _ _ f)) ∙ b.agrees _ _ (said_at answers i h)

  pub borne_fit : (i : ℕ) → i < rows_of t → RowFit (keys_of t) (cells_of t) ws answers i
  borne_fit i h = record {
    empty = λ e. ap (λ (z : ℕ). get_or ws z []) e ∙ b.first;
    keys = b.keys i h;
    leads = b.reach i h;
    told = ((b.asked i h).0, said_is_first answers borne_consistent _ _ (b.asked i h).1);
  }
