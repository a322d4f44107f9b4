-- Observations that extend others: what stood stays.
use Rattle.std.proofs.Common.{◌≡◌, ℕ, zero, suc, ◌*◌, ◌/◌, ◌%◌, ◌<◌, ◌≤◌, ◌⊎◌, [], ◌∷◌, ◌++◌, length, sym, refl, ap, ◌∙◌, subst, inl, inr, mul-le-mul_right, arith}
use Rattle.std.proofs.lemmas.Bool.{cases_lt}
use Rattle.std.proofs.lemmas.Nat.{div_below, mod_below}
use Rattle.machines.specs.Words.{Word, Keys}
use Rattle.model.specs.Observations.{
  Answer,
  Observations,
  rows,
  suffixes_used,
  count,
  edges_used,
  access_word,
  suffix_word,
  edge_of,
  edge_word,
  answer_at,
  word_of,
  word_at,
  shown_at,
  cell_at,
  seen_by,
  seen,
  Differ,
  Once,
  Limits,
  RowSpelt,
  SuffixSpelt,
  AnswerSpelt,
  InCell,
  WellFormed,
}

-- What stood stays.
pub record Extends (n : ℕ) (b b' : Observations) : Type 0 where
  pub rows_more : rows b ≤ rows b'
  pub access_kept : (i : ℕ) → i < rows b → access_word b' i ≡ access_word b i
  pub edge_kept : (i : ℕ) → i < rows b → edge_of b' i ≡ edge_of b i
  pub suffixes_more : suffixes_used b ≤ suffixes_used b'
  pub suffix_kept : (e : ℕ) → e < suffixes_used b → suffix_word b' e ≡ suffix_word b e
  pub answers_more : count b ≤ count b'
  pub answer_kept : (c : ℕ) → c < count b → answer_at b' c ≡ answer_at b c
  pub cell_kept : (u e c : ℕ) → cell_at n b u e ≡ suc c → cell_at n b' u e ≡ suc c
  pub letters_more : b.letters ≤ b'.letters

-- What is new is as it must be.
pub record Newly (k n : ℕ) (b b' : Observations) : Type 0 where
  pub limits : Limits k n b'
  pub row : (j : ℕ) → rows b ≤ j → j < rows b' → RowSpelt k b' j
  pub suffix : (e : ℕ) → suffixes_used b ≤ e → e < suffixes_used b' → SuffixSpelt k b' e
  pub answer : (c : ℕ) → count b ≤ c → c < count b' → AnswerSpelt k b' c
  pub cell : (u e c : ℕ) → cell_at n b' u e ≡ suc c → u < suc (n * k) → e < n → (cell_at n b u e ≡ suc c) ⊎ InCell k b' u e c
  pub apart : (i j : ℕ) → i < rows b' → rows b ≤ j → j < rows b' → (i ≡ j → ⊥) → Differ n b' (edge_of b' j) (edge_of b' i)

pub differ_sym : {n : ℕ} {b : Observations} {u v : ℕ} → Differ n b u v → Differ n b v u
differ_sym d = record { suffix = d.suffix; suffix_in = d.suffix_in; left = d.right; right = d.left; other = λ e. d.other (sym e) }

-- A cell in which something is seen has an answer.
pub known : (b : Observations) (x : ℕ) → 0 < seen_by b x → (c : ℕ) × (x ≡ suc c)
known b zero h = absurd (omega arith)
known b (suc c) h = (c, refl)

module _ {k n : ℕ} {b : Observations} (w : WellFormed k n b) where
  -- The word of an edge in use is the access word of a row, and a key.
  pub row_of_edge : (v : ℕ) → suc v < edges_used k b → (v / k < rows b) × (v % k < k)
  row_of_edge v h =
      let p : 0 < k = omega (arith, w.limits.keys_least) in
      (div_below v k (rows b) p (omega arith), mod_below v k p)

  pub used_in : (u : ℕ) → u < edges_used k b → u < suc (n * k)
  used_in u h = omega (arith, mul-le-mul_right {m = rows b} {n = n} k w.limits.rows_most)

  pub suffix_in : (e : ℕ) → e < suffixes_used b → e < n
  suffix_in e h = omega (arith, w.limits.suffixes_most)

  -- A row is an edge in use.
  pub edge_used : (j : ℕ) → j < rows b → edge_of b j < edges_used k b
  edge_used j h = omega (arith, (w.spelt.row j h).earlier, mul-le-mul_right {m = j} {n = rows b} k (omega arith))

  -- What is seen in a cell in use is an answer to its word.
  pub seen_cell : (u e : ℕ) → u < edges_used k b → e < suffixes_used b → 0 < seen n b u e → (c : ℕ) × (cell_at n b u e ≡ suc c) × InCell k b u e c × (seen n b u e ≡ suc (shown_at b c))
  seen_cell u e h l p =
      let q = known b (cell_at n b u e) p in
      (q.0, q.1, w.cells u e q.0 (used_in u h) (suffix_in e l) q.1, ap (seen_by b) q.1)

module _ {k n : ℕ} {b b' : Observations} (w : WellFormed k n b) (x : Extends n b b') where
  pub word_kept : (c : ℕ) → c < count b → word_at b' c ≡ word_at b c
  word_kept c h =
      ap (word_of b') (x.answer_kept c h) ∙ ap (λ (z : Word). z ++ (answer_at b c).rest) (x.access_kept (answer_at b c).row (w.spelt.answer c h).row_in)

  pub shown_kept : (c : ℕ) → c < count b → shown_at b' c ≡ shown_at b c
  shown_kept c h = ap (λ (a : Answer). a.shown) (x.answer_kept c h)

  pub edge_word_kept : (u : ℕ) → u < edges_used k b → edge_word k b' u ≡ edge_word k b u
  edge_word_kept zero h = refl
  edge_word_kept (suc v) h = ap (λ (z : Word). z ++ (v % k ∷ [])) (x.access_kept (v / k) (row_of_edge w v h).0)

  pub seen_kept : (u e : ℕ) → u < edges_used k b → e < suffixes_used b → 0 < seen n b u e → seen n b' u e ≡ seen n b u e
  seen_kept u e h l p =
      let q = seen_cell w u e h l p in
      ap (seen_by b') (x.cell_kept u e q.0 q.1) ∙ ap suc (shown_kept q.0 q.2.answer_in) ∙ sym q.3

  pub differ_kept : (u v : ℕ) → u < edges_used k b → v < edges_used k b → Differ n b u v → Differ n b' u v
  differ_kept u v h l d =
      let p = seen_kept u d.suffix h d.suffix_in d.left in
      let q = seen_kept v d.suffix l d.suffix_in d.right in
      record {
        suffix = d.suffix;
        suffix_in = omega (arith, d.suffix_in, x.suffixes_more);
        left = omega (arith, p, d.left);
        right = omega (arith, q, d.right);
        other = λ e. d.other (sym p ∙ e ∙ q);
      }

  pub once_kept : count b' ≡ count b → Once b → Once b'
  once_kept s o c d h l e =
      let hc : c < count b = omega arith in
      let hd : d < count b = omega arith in
      o c d hc hd (sym (word_kept c hc) ∙ e ∙ word_kept d hd)

  row_old : (j : ℕ) → j < rows b → RowSpelt k b' j
  row_old j h =
      let r = w.spelt.row j h in
      record {
        earlier = omega (arith, r.earlier, x.edge_kept j h);
        word = x.access_kept j h ∙ r.word ∙ sym (edge_word_kept (edge_of b j) (edge_used w j h)) ∙ ap (edge_word k b') (sym (x.edge_kept j h));
      }

  suffix_old : (e : ℕ) → e < suffixes_used b → SuffixSpelt k b' e
  suffix_old e h =
      let r = w.spelt.suffix e h in
      record {
        of_keys = subst (Keys k) (sym (x.suffix_kept e h)) r.of_keys;
        short = omega (arith, r.short, x.letters_more, ap (λ (z : Word). length z) (x.suffix_kept e h));
      }

  answer_old : (c : ℕ) → c < count b → AnswerSpelt k b' c
  answer_old c h =
      let r = w.spelt.answer c h in
      let q = x.answer_kept c h in
      record {
        row_in = omega (arith, r.row_in, x.rows_more, ap (λ (a : Answer). a.row) q);
        of_keys = subst (λ (a : Answer). Keys k a.rest) (sym q) r.of_keys;
        short = omega (arith, r.short, x.letters_more, ap (λ (a : Answer). length a.rest) q);
      }

  cell_old : (u e c : ℕ) → InCell k b u e c → InCell k b' u e c
  cell_old u e c r =
      record {
        edge_in = omega (arith, r.edge_in, mul-le-mul_right {m = rows b} {n = rows b'} k x.rows_more);
        suffix_in = omega (arith, r.suffix_in, x.suffixes_more);
        answer_in = omega (arith, r.answer_in, x.answers_more);
        word = word_kept c r.answer_in ∙ r.word ∙ (λ i. sym (edge_word_kept u r.edge_in) i ++ sym (x.suffix_kept e r.suffix_in) i);
      }

  -- What stood stays well formed, so only what is new has to be shown.
  pub formed_kept : Newly k n b b' → WellFormed k n b'
  formed_kept new =
      record {
        limits = new.limits;
        spelt = record {
          row = λ j h. elim (cases_lt j (rows b)) [ inl l ↦ row_old j l | inr l ↦ new.row j l h ];
          empty = x.suffix_kept 0 (omega (arith, w.limits.suffixes_least)) ∙ w.spelt.empty;
          suffix = λ e h. elim (cases_lt e (suffixes_used b)) [ inl l ↦ suffix_old e l | inr l ↦ new.suffix e l h ];
          answer = λ c h. elim (cases_lt c (count b)) [ inl l ↦ answer_old c l | inr l ↦ new.answer c l h ];
        };
        cells = λ u e c h l p. elim (new.cell u e c p h l) [ inl q ↦ cell_old u e c (w.cells u e c h l q) | inr q ↦ q ];
        apart = λ i j h l ne. elim (cases_lt j (rows b)) [
          | inl q ↦ elim (cases_lt i (rows b)) [ inl p ↦ old i j p q ne | inr p ↦ new.apart j i l p h (λ e. ne (sym e)) ]
          | inr q ↦ differ_sym (new.apart i j h q l ne)
        ];
      }
    where
      old : (i j : ℕ) → i < rows b → j < rows b → (i ≡ j → ⊥) → Differ n b' (edge_of b' i) (edge_of b' j)
      old i j h l ne =
          subst (λ (z : ℕ). Differ n b' z (edge_of b' j)) (sym (x.edge_kept i h))
          (subst (λ (z : ℕ). Differ n b' (edge_of b i) z) (sym (x.edge_kept j l)) (differ_kept (edge_of b i) (edge_of b j) (edge_used w i h) (edge_used w j l) (w.apart i j h l ne)))
