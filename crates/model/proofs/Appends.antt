-- One answer, cell, row or suffix more: what stood stays, and all stays well formed.
use Rattle.std.proofs.Common.{◌≡◌, ℕ, suc, ◌+◌, ◌*◌, ◌/◌, ◌%◌, ◌<◌, ◌≤◌, ◌⊎◌, [], ◌∷◌, ◌++◌, length, get_or, set, sym, refl, ap, ◌∙◌, subst, inl, inr, arith, length-set}
use Rattle.std.proofs.lemmas.List.{length_push, get_or_push, get_or_append_left, get_or-set_same, get_or-set_other}
use Rattle.std.proofs.lemmas.Bool.{cases_eq}
use Rattle.std.proofs.lemmas.Nat.{div-mul-add, mod-mul-add, mul-add-lt}
use Rattle.machines.specs.Words.{Word, Keys}
use Rattle.model.specs.Observations.{
  Answer,
  no_answer,
  Observations,
  rows,
  suffixes_used,
  count,
  edges_used,
  suffix_word,
  edge_of,
  edge_word,
  answer_at,
  word_of,
  word_at,
  cell_at,
  Differ,
  New,
  Once,
  RowSpelt,
  SuffixSpelt,
  AnswerSpelt,
  InCell,
  WellFormed,
  with_answer,
  with_cell,
  with_row,
  with_suffix,
}
use Rattle.model.proofs.Lists.{push_place}
use Rattle.model.proofs.Extends.{Extends, edge_used, used_in, suffix_in, word_kept, edge_word_kept, differ_kept, formed_kept}

-- Two places of a grid are the same only in the same row and column.
pub same_place : (n u e v f : ℕ) → e < n → f < n → u * n + e ≡ v * n + f → (u ≡ v) × (e ≡ f)
same_place n u e v f h l p =
    (sym (div-mul-add u n e h) ∙ ap (λ (z : ℕ). z / n) p ∙ div-mul-add v n f l, sym (mod-mul-add u n e h) ∙ ap (λ (z : ℕ). z % n) p ∙ mod-mul-add v n f l)

-- The place of a cell in use is one of the grid.
pub cell_place : {k n : ℕ} {b : Observations} → WellFormed k n b → (u e : ℕ) → u < edges_used k b → e < suffixes_used b → u * n + e < length b.cells
cell_place {k} {n} w u e h l = omega (arith, mul-add-lt u n e (suc (n * k)) (used_in w u h) (suffix_in w e l), w.limits.cells_long)

in_cell_at : {k : ℕ} {b : Observations} {u e c v f d : ℕ} → u ≡ v → e ≡ f → c ≡ d → InCell k b u e c → InCell k b v f d
in_cell_at {k} {b} {u} {e} {c} {v} {f} {d} p q r h = subst (λ (z : ℕ). InCell k b v f z) r (subst (λ (z : ℕ). InCell k b v z c) q (subst (λ (z : ℕ). InCell k b z e c) p h))

module _ {k n : ℕ} {b : Observations} (w : WellFormed k n b) where
  pub extends_answer : (a : Answer) (l : ℕ) → b.letters ≤ l → Extends n b (with_answer b a l)
  extends_answer a l h =
      record {
        rows_more = omega arith;
        access_kept = λ i p. refl;
        edge_kept = λ i p. refl;
        suffixes_more = omega arith;
        suffix_kept = λ e p. refl;
        answers_more = omega (arith, length_push b.answers a);
        answer_kept = λ c p. get_or_append_left b.answers (a ∷ []) no_answer c p;
        cell_kept = λ u e c p. p;
        letters_more = h;
      }

  pub new_answer : (a : Answer) (l c : ℕ) → c ≡ count b → answer_at (with_answer b a l) c ≡ a
  new_answer a l c e = get_or_push b.answers a no_answer c (sym e)

  pub formed_answer : (a : Answer) (l : ℕ) → b.letters ≤ l → a.row < rows b → Keys k a.rest → length a.rest ≤ suc l → WellFormed k n (with_answer b a l)
  formed_answer a l h row keys short =
      formed_kept w (extends_answer a l h) record {
        limits = record {
          keys_least = w.limits.keys_least;
          keys_most = w.limits.keys_most;
          most_least = w.limits.most_least;
          most_most = w.limits.most_most;
          rows_least = w.limits.rows_least;
          rows_most = w.limits.rows_most;
          suffixes_least = w.limits.suffixes_least;
          suffixes_most = w.limits.suffixes_most;
          edges_long = w.limits.edges_long;
          cells_long = w.limits.cells_long;
        };
        row = λ j p q. absurd (omega arith);
        suffix = λ e p q. absurd (omega arith);
        answer = λ c p q. new c (omega (arith, length_push b.answers a));
        cell = λ u e c p q r. inl p;
        apart = λ i j p q r ne. absurd (omega arith);
      }
    where
      new : (c : ℕ) → c ≡ count b → AnswerSpelt k (with_answer b a l) c
      new c e =
          let q = new_answer a l c e in
          record {
            row_in = omega (arith, ap (λ (z : Answer). z.row) q, row);
            of_keys = subst (λ (z : Answer). Keys k z.rest) (sym q) keys;
            short = omega (arith, ap (λ (z : Answer). length z.rest) q, short);
          }

  pub once_answer : (a : Answer) (l : ℕ) → b.letters ≤ l → Once b → New b (word_of b a) → Once (with_answer b a l)
  once_answer a l h o new c d p q e =
      let old : (i : ℕ) → i < count b → word_at (with_answer b a l) i ≡ word_at b i = word_kept w (extends_answer a l h) in
      let last : (i : ℕ) → i ≡ count b → word_at (with_answer b a l) i ≡ word_of b a = λ i s. ap (word_of b) (new_answer a l i s) in
      elim (push_place b.answers a c p) [
        | inl cl ↦ elim (push_place b.answers a d q) [
          | inl dl ↦ o c d cl dl (sym (old c cl) ∙ e ∙ old d dl)
          | inr dl ↦ absurd (new c cl (sym (old c cl) ∙ e ∙ last d dl))
        ]
        | inr cl ↦ elim (push_place b.answers a d q) [
          | inl dl ↦ absurd (new d dl (sym (old d dl) ∙ sym e ∙ last c cl))
          | inr dl ↦ cl ∙ sym dl
        ]
      ]

  pub extends_cell : (u e c : ℕ) → cell_at n b u e ≡ 0 → Extends n b (with_cell n b u e c)
  extends_cell u e c z =
      record {
        rows_more = omega arith;
        access_kept = λ i p. refl;
        edge_kept = λ i p. refl;
        suffixes_more = omega arith;
        suffix_kept = λ f p. refl;
        answers_more = omega arith;
        answer_kept = λ d p. refl;
        cell_kept = kept;
        letters_more = omega arith;
      }
    where
      kept : (v f d : ℕ) → cell_at n b v f ≡ suc d → cell_at n (with_cell n b u e c) v f ≡ suc d
      kept v f d p =
          elim (cases_eq (v * n + f) (u * n + e)) [
            | inl q ↦ absurd (omega (arith, p, z, ap (λ (i : ℕ). get_or b.cells i 0) q))
            | inr ne ↦ get_or-set_other b.cells (u * n + e) (v * n + f) (suc c) 0 ne ∙ p
          ]

  pub formed_cell : (u e c : ℕ) → cell_at n b u e ≡ 0 → InCell k b u e c → WellFormed k n (with_cell n b u e c)
  formed_cell u e c z r =
      formed_kept w (extends_cell u e c z) record {
        limits = record {
          keys_least = w.limits.keys_least;
          keys_most = w.limits.keys_most;
          most_least = w.limits.most_least;
          most_most = w.limits.most_most;
          rows_least = w.limits.rows_least;
          rows_most = w.limits.rows_most;
          suffixes_least = w.limits.suffixes_least;
          suffixes_most = w.limits.suffixes_most;
          edges_long = w.limits.edges_long;
          cells_long = length-set b.cells (u * n + e) (suc c) ∙ w.limits.cells_long;
        };
        row = λ j p q. absurd (omega arith);
        suffix = λ f p q. absurd (omega arith);
        answer = λ d p q. absurd (omega arith);
        cell = new;
        apart = λ i j p q s ne. absurd (omega arith);
      }
    where
      here' : InCell k (with_cell n b u e c) u e c
      here' = record { edge_in = r.edge_in; suffix_in = r.suffix_in; answer_in = r.answer_in; word = r.word }

      new : (v f d : ℕ) → cell_at n (with_cell n b u e c) v f ≡ suc d → v < suc (n * k) → f < n → (cell_at n b v f ≡ suc d) ⊎ InCell k (with_cell n b u e c) v f d
      new v f d p h l =
          elim (cases_eq (v * n + f) (u * n + e)) [
            | inl q ↦
                let s = same_place n v f u e l (suffix_in w e r.suffix_in) q in
                let t : suc c ≡ suc d = sym (get_or-set_same b.cells (u * n + e) (suc c) 0 (cell_place w u e r.edge_in r.suffix_in)) ∙ ap (λ (i : ℕ). get_or (set b.cells (u * n + e) (suc c)) i 0) (sym q) ∙ p in
                inr (in_cell_at (sym s.0) (sym s.1) (omega arith) here')
            | inr ne ↦ inl (sym (get_or-set_other b.cells (u * n + e) (v * n + f) (suc c) 0 ne) ∙ p)
          ]

  pub extends_row : (u : ℕ) → Extends n b (with_row k b u)
  extends_row u =
      record {
        rows_more = omega (arith, length_push b.access (edge_word k b u));
        access_kept = λ i p. get_or_append_left b.access (edge_word k b u ∷ []) [] i p;
        edge_kept = λ i p. get_or_append_left b.edges (u ∷ []) 0 i (omega (arith, w.limits.edges_long));
        suffixes_more = omega arith;
        suffix_kept = λ e p. refl;
        answers_more = omega arith;
        answer_kept = λ c p. refl;
        cell_kept = λ v e c p. p;
        letters_more = omega arith;
      }

  pub formed_row : (u : ℕ) → u < edges_used k b → ((j : ℕ) → j < rows b → Differ n b u (edge_of b j)) → rows b < n → WellFormed k n (with_row k b u)
  formed_row u h other room =
      formed_kept w x record {
        limits = record {
          keys_least = w.limits.keys_least;
          keys_most = w.limits.keys_most;
          most_least = w.limits.most_least;
          most_most = w.limits.most_most;
          rows_least = omega (arith, long);
          rows_most = omega (arith, long);
          suffixes_least = w.limits.suffixes_least;
          suffixes_most = w.limits.suffixes_most;
          edges_long = omega (arith, long, length_push b.edges u, w.limits.edges_long);
          cells_long = w.limits.cells_long;
        };
        row = λ j p q. subst (RowSpelt k (with_row k b u)) (omega (arith, long)) spelt;
        suffix = λ e p q. absurd (omega arith);
        answer = λ c p q. absurd (omega arith);
        cell = λ v e c p q r. inl p;
        apart = λ i j p q r ne. new i j (omega (arith, long)) (omega (arith, long));
      }
    where
      x : Extends n b (with_row k b u)
      x = extends_row u

      long : length (b.access ++ (edge_word k b u ∷ [])) ≡ rows b + 1
      long = length_push b.access (edge_word k b u)

      edge : edge_of (with_row k b u) (rows b) ≡ u
      edge = get_or_push b.edges u 0 (rows b) w.limits.edges_long

      spelt : RowSpelt k (with_row k b u) (rows b)
      spelt =
          record {
            earlier = omega (arith, edge, h);
            word = get_or_push b.access (edge_word k b u) [] (rows b) refl ∙ sym (edge_word_kept w x u h) ∙ ap (edge_word k (with_row k b u)) (sym edge);
          }

      new : (i j : ℕ) → i < rows b → j ≡ rows b → Differ n (with_row k b u) (edge_of (with_row k b u) j) (edge_of (with_row k b u) i)
      new i j p e =
          subst (λ (z : ℕ). Differ n (with_row k b u) z (edge_of (with_row k b u) i)) (sym (ap (edge_of (with_row k b u)) e ∙ edge))
          (subst (λ (z : ℕ). Differ n (with_row k b u) u z) (sym (x.edge_kept i p)) (differ_kept w x u (edge_of b i) h (edge_used w i p) (other i p)))

  pub extends_suffix : (v : Word) → Extends n b (with_suffix b v)
  extends_suffix v =
      record {
        rows_more = omega arith;
        access_kept = λ i p. refl;
        edge_kept = λ i p. refl;
        suffixes_more = omega (arith, length_push b.suffixes v);
        suffix_kept = λ e p. get_or_append_left b.suffixes (v ∷ []) [] e p;
        answers_more = omega arith;
        answer_kept = λ c p. refl;
        cell_kept = λ u e c p. p;
        letters_more = omega arith;
      }

  pub formed_suffix : (v : Word) → Keys k v → length v ≤ b.letters → suffixes_used b < n → WellFormed k n (with_suffix b v)
  formed_suffix v keys short room =
      formed_kept w (extends_suffix v) record {
        limits = record {
          keys_least = w.limits.keys_least;
          keys_most = w.limits.keys_most;
          most_least = w.limits.most_least;
          most_most = w.limits.most_most;
          rows_least = w.limits.rows_least;
          rows_most = w.limits.rows_most;
          suffixes_least = omega (arith, long);
          suffixes_most = omega (arith, long);
          edges_long = w.limits.edges_long;
          cells_long = w.limits.cells_long;
        };
        row = λ j p q. absurd (omega arith);
        suffix = λ e p q. new e (omega (arith, long));
        answer = λ c p q. absurd (omega arith);
        cell = λ u e c p q r. inl p;
        apart = λ i j p q r ne. absurd (omega arith);
      }
    where
      long : length (b.suffixes ++ (v ∷ [])) ≡ suffixes_used b + 1
      long = length_push b.suffixes v

      new : (e : ℕ) → e ≡ suffixes_used b → SuffixSpelt k (with_suffix b v) e
      new e p =
          let q : suffix_word (with_suffix b v) e ≡ v = get_or_push b.suffixes v [] e (sym p) in
          record { of_keys = subst (Keys k) (sym q) keys; short = omega (arith, ap (λ (z : Word). length z) q, short) }
