-- The table that is read off full and closed observations.
use Rattle.std.proofs.Common.{◌≡◌, ℕ, zero, suc, ◌+◌, ◌*◌, ◌/◌, ◌%◌, ◌<◌, List, [], ◌∷◌, ◌++◌, length, get_or, sym, refl, ap, ◌∙◌, subst, inl, inr, mul-le-mul_right, arith}
use Rattle.std.proofs.lemmas.List.{append-nil}
use Rattle.std.proofs.lemmas.Bool.{cases_eq}
use Rattle.std.proofs.lemmas.Nat.{div-mul-add, mod-mul-add, mul-add-lt, div_below, div-add-mod'}
use Rattle.machines.specs.Words.{Word, Keys}
use Rattle.machines.specs.Tables.{row_shows, next, walk, shows}
use Rattle.machines.specs.Answers.{Said, ToldApart}
use Rattle.machines.specs.Borne.{IsBorneOut}
use Rattle.machines.proofs.Walks.{keys-append}
use Rattle.model.specs.Observations.{
  Observations,
  rows,
  suffixes_used,
  edges_used,
  access_word,
  edge_of,
  edge_word,
  answer_at,
  word_at,
  shown_at,
  seen,
  one_less,
  told,
  Differ,
  WellFormed,
  Full,
  Closed,
  leads_to,
  Agreed,
  table_entry,
  table_of,
}
use Rattle.model.proofs.Tabulating.{length-tabulate, get_d_tabulate}
use Rattle.model.proofs.Extends.{edge_used, seen_cell}
use Rattle.model.proofs.Telling.{said_at, said_back, apart_as, differ_apart, access_apart, access_first, access_keys}

pub leads-append : (k : ℕ) (s : List ℕ) (i : ℕ) (u v : Word) → leads_to k s i (u ++ v) ≡ leads_to k s (leads_to k s i u) v
leads-append k s i [] v = refl
leads-append k s i (x ∷ u) v = leads-append k s (get_or s (suc (i * k + x)) 0) u v

module _ (k n : ℕ) (b : Observations) (s : List ℕ) where
  pub length-table : length (table_of k n b s) ≡ rows b * (k + 1)
  unfolding table_of
  length-table = length-tabulate (rows b * (k + 1)) (λ p. table_entry k n b s (p / (k + 1)) (p % (k + 1)))

  -- What stands at a place of the table.
  pub table_at : (i y : ℕ) → i < rows b → y < k + 1 → get_or (table_of k n b s) (i * (k + 1) + y) 0 ≡ table_entry k n b s i y
  unfolding table_of
  table_at i y h l =
      get_d_tabulate (rows b * (k + 1)) (λ p. table_entry k n b s (p / (k + 1)) (p % (k + 1))) (i * (k + 1) + y) 0 (omega (arith, mul-add-lt i (k + 1) y (rows b) h l))
      ∙ (λ j. table_entry k n b s (div-mul-add i (k + 1) y l j) (mod-mul-add i (k + 1) y l j))

  pub table_shows : (i : ℕ) → i < rows b → row_shows k (table_of k n b s) i ≡ one_less (seen n b (edge_of b i) 0)
  table_shows i h =
      let e : i * (k + 1) ≡ i * (k + 1) + 0 = omega arith in
      ap (λ (p : ℕ). get_or (table_of k n b s) p 0) e ∙ table_at i 0 h (omega arith)

  pub table_next : (i x : ℕ) → i < rows b → x < k → next k (table_of k n b s) i x ≡ get_or s (suc (i * k + x)) 0
  table_next i x h l =
      let e : i * (k + 1) + (1 + x) ≡ i * (k + 1) + suc x = omega arith in
      ap (λ (p : ℕ). get_or (table_of k n b s) p 0) e ∙ table_at i (suc x) h (omega arith)

module _ {k n : ℕ} {b : Observations} (w : WellFormed k n b) (s : List ℕ) (closed : Closed k n b s) where
  pub edge_below : (i x : ℕ) → i < rows b → x < k → i * k + x < rows b * k
  edge_below i x h l = omega (arith, mul-add-lt i k x (rows b) h l)

  pub leads_inside : (i : ℕ) (v : Word) → i < rows b → Keys k v → leads_to k s i v < rows b
  leads_inside i [] h keys = h
  leads_inside i (x ∷ v) h keys = leads_inside (get_or s (suc (i * k + x)) 0) v (closed (i * k + x) (edge_below i x h keys.0)).row_in keys.1

  pub table_walk : (i : ℕ) (v : Word) → i < rows b → Keys k v → walk k (table_of k n b s) i v ≡ leads_to k s i v
  table_walk i [] h keys = refl
  table_walk i (x ∷ v) h keys =
      ap (λ (j : ℕ). walk k (table_of k n b s) j v) (table_next k n b s i x h keys.0) ∙ table_walk (get_or s (suc (i * k + x)) 0) v (closed (i * k + x) (edge_below i x h keys.0)).row_in keys.1

  -- Rows that show the same before all suffixes are one.
  pub one_row : (i j : ℕ) → i < rows b → j < rows b → ((e : ℕ) → e < suffixes_used b → seen n b (edge_of b i) e ≡ seen n b (edge_of b j) e) → i ≡ j
  one_row i j h l same =
      elim (cases_eq i j) [
        | inl e ↦ e
        | inr ne ↦ let d = w.apart i j h l ne in absurd (d.other (same d.suffix d.suffix_in))
      ]

  reach_edge : (j u : ℕ) → j < rows b → edge_of b j ≡ u → u < suc (j * k) → ((i : ℕ) → i < j → leads_to k s 0 (access_word b i) ≡ i) → leads_to k s 0 (edge_word k b u) ≡ j
  reach_edge j zero h e l before =
      let first : edge_of b 0 ≡ 0 = omega (arith, (w.spelt.row 0 w.limits.rows_least).earlier) in
      one_row 0 j w.limits.rows_least h (λ f p. ap (λ (u : ℕ). seen n b u f) (first ∙ sym e))
  reach_edge j (suc v) h e l before =
      let r = closed v (omega (arith, mul-le-mul_right {m = j} {n = rows b} k (omega arith))) in
      let p : v / k < j = div_below v k j (omega (arith, w.limits.keys_least)) (omega arith) in
      leads-append k s 0 (access_word b (v / k)) (v % k ∷ [])
      ∙ ap (λ (i : ℕ). get_or s (suc (i * k + v % k)) 0) (before (v / k) p)
      ∙ ap (λ (i : ℕ). get_or s (suc i) 0) (div-add-mod' v k)
      ∙ one_row (get_or s (suc v) 0) j r.row_in h (λ f q. sym (r.same f q) ∙ ap (λ (u : ℕ). seen n b u f) (sym e))

  reach_within : (m j : ℕ) → j < m → j < rows b → leads_to k s 0 (access_word b j) ≡ j
  reach_within zero j h l = absurd (omega arith)
  reach_within (suc m) j h l =
      let r = w.spelt.row j l in
      ap (leads_to k s 0) r.word ∙ reach_edge j (edge_of b j) l refl r.earlier (λ i p. reach_within m i (omega arith) (omega arith))

  -- Each access word leads to its row.
  pub reach : (j : ℕ) → j < rows b → leads_to k s 0 (access_word b j) ≡ j
  reach j h = reach_within (suc j) j (omega arith) h

  -- What the table shows after an access word and more.
  pub shows_behind_row : (i : ℕ) (v : Word) → i < rows b → Keys k v → shows k (table_of k n b s) (access_word b i ++ v) ≡ one_less (seen n b (edge_of b (leads_to k s i v)) 0)
  shows_behind_row i v h keys =
      let all = (keys-append k (access_word b i) v).1 (access_keys w i h, keys) in
      ap (row_shows k (table_of k n b s)) (table_walk 0 (access_word b i ++ v) w.limits.rows_least all ∙ leads-append k s 0 (access_word b i) v ∙ ap (λ (j : ℕ). leads_to k s j v) (reach i h))
      ∙ table_shows k n b s (leads_to k s i v) (leads_inside i v h keys)

  -- What the table shows after a word.
  pub shows_word : (v : Word) → Keys k v → shows k (table_of k n b s) v ≡ one_less (seen n b (edge_of b (leads_to k s 0 v)) 0)
  shows_word v keys = ap (λ (u : Word). shows k (table_of k n b s) (u ++ v)) (sym (access_first w)) ∙ shows_behind_row 0 v w.limits.rows_least keys

  -- Two edges that show what two different rows show are told apart.
  pub leads_apart : (u v i j : ℕ) → u < edges_used k b → v < edges_used k b → i < rows b → j < rows b → (i ≡ j → ⊥)
      → ((e : ℕ) → e < suffixes_used b → seen n b u e ≡ seen n b (edge_of b i) e) → ((e : ℕ) → e < suffixes_used b → seen n b v e ≡ seen n b (edge_of b j) e) → Differ n b u v
  leads_apart u v i j h l p q ne one two =
      let d = w.apart i j p q ne in
      let left = one d.suffix d.suffix_in in
      let right = two d.suffix d.suffix_in in
      record {
        suffix = d.suffix;
        suffix_in = d.suffix_in;
        left = omega (arith, left, d.left);
        right = omega (arith, right, d.right);
        other = λ e. d.other (sym left ∙ e ∙ right);
      }

  -- The word of an edge is an access word and a key.
  pub edge_spelt : (i x : ℕ) → x < k → edge_word k b (suc (i * k + x)) ≡ access_word b i ++ (x ∷ [])
  edge_spelt i x l = λ y. access_word b (div-mul-add i k x l y) ++ (mod-mul-add i k x l y ∷ [])

  -- Access words with a key behind them that lead to different rows are told apart.
  pub edges_told : (i x j y : ℕ) → i < rows b → x < k → j < rows b → y < k → (next k (table_of k n b s) i x ≡ next k (table_of k n b s) j y → ⊥)
      → ToldApart (Said (told b)) (access_word b i ++ (x ∷ [])) (access_word b j ++ (y ∷ []))
  edges_told i x j y h l p q ne =
      let u = i * k + x in
      let v = j * k + y in
      let one = closed u (edge_below i x h l) in
      let two = closed v (edge_below j y p q) in
      let u_used : suc u < edges_used k b = omega (arith, edge_below i x h l) in
      let v_used : suc v < edges_used k b = omega (arith, edge_below j y p q) in
      let other : get_or s (suc u) 0 ≡ get_or s (suc v) 0 → ⊥ = λ e. ne (table_next k n b s i x h l ∙ e ∙ sym (table_next k n b s j y p q)) in
      let d = leads_apart (suc u) (suc v) (get_or s (suc u) 0) (get_or s (suc v) 0) u_used v_used one.row_in two.row_in other one.same two.same in
      apart_as (edge_spelt i x l) (edge_spelt j y q) (differ_apart w (suc u) (suc v) u_used v_used d)

  -- A table read off full observations that agrees with every answer is borne out.
  pub borne : Full k n b → Agreed k n b s → IsBorneOut k (rows b) (table_of k n b s) b.access (Said (told b))
  borne full agreed =
      record {
        sound = record {
          some_rows = w.limits.rows_least;
          long = length-table k n b s;
          inside = λ i x h l. omega (arith, table_next k n b s i x h l, (closed (i * k + x) (edge_below i x h l)).row_in);
        };
        agrees = agrees;
        as_many = refl;
        keys = access_keys w;
        reach = λ i h. table_walk 0 (access_word b i) w.limits.rows_least (access_keys w i h) ∙ reach i h;
        first = access_first w;
        asked = asked;
        apart = access_apart w;
        leads = leads;
      }
    where
      agrees : (v : Word) (m : ℕ) → Said (told b) v m → shows k (table_of k n b s) v ≡ m
      agrees v m said =
          let p = said_back b v m said in
          let a = w.spelt.answer p.0 p.1 in
          ap (shows k (table_of k n b s)) (sym p.2) ∙ shows_behind_row (answer_at b p.0).row (answer_at b p.0).rest a.row_in a.of_keys ∙ ap one_less (agreed p.0 p.1) ∙ p.3

      asked : (i : ℕ) → i < rows b → (m : ℕ) × Said (told b) (access_word b i) m
      asked i h =
          let some_suffix : 0 < suffixes_used b = omega (arith, w.limits.suffixes_least) in
          let q = seen_cell w (edge_of b i) 0 (edge_used w i h) some_suffix (full (edge_of b i) 0 (edge_used w i h) some_suffix) in
          let e : word_at b q.0 ≡ access_word b i = q.2.word ∙ (λ j. sym (w.spelt.row i h).word j ++ w.spelt.empty j) ∙ append-nil (access_word b i) in
          (shown_at b q.0, subst (λ (v : Word). Said (told b) v (shown_at b q.0)) e (said_at b q.0 q.2.answer_in))

      leads : (i x j : ℕ) → i < rows b → x < k → j < rows b → (j ≡ next k (table_of k n b s) i x → ⊥) → ToldApart (Said (told b)) (access_word b i ++ (x ∷ [])) (access_word b j)
      leads i x j h l p ne =
          let u = i * k + x in
          let r = closed u (edge_below i x h l) in
          let used : suc u < edges_used k b = omega (arith, edge_below i x h l) in
          let apart : get_or s (suc u) 0 ≡ j → ⊥ = λ e. ne (sym e ∙ sym (table_next k n b s i x h l)) in
          let d = leads_apart (suc u) (edge_of b j) (get_or s (suc u) 0) j used (edge_used w j p) r.row_in p apart r.same (λ e q. refl) in
          apart_as (edge_spelt i x l) (sym (w.spelt.row j p).word) (differ_apart w (suc u) (edge_of b j) used (edge_used w j p) d)
