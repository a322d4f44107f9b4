-- The moves by which the observation table is filled.
use Rattle.std.proofs.Common.{◌≡◌, ℕ, zero, suc, ◌+◌, ◌*◌, ◌/◌, ◌%◌, ◌<◌, ◌≤◌, List, [], ◌∷◌, ◌++◌, length, drop, sym, refl, ap, ◌∙◌, subst, mul-le-mul_right, arith}
use lib.ListN.{length-replicate}
use Rattle.std.proofs.lemmas.List.{append_assoc, length_push, drop_at}
use Rattle.machines.specs.Words.{Word}
use Rattle.machines.specs.Answers.{Told}
use Rattle.machines.proofs.Padding.{get_or-zeros}
use Rattle.model.specs.States.{State, hears}
use Rattle.model.specs.Bits.{bits}
use Rattle.model.specs.Observations.{
  Observations,
  rows,
  suffixes_used,
  count,
  edges_used,
  access_word,
  suffix_word,
  edge_of,
  edge_word,
  word_of,
  word_at,
  shown_at,
  told_of,
  told,
  Differ,
  RowSpelt,
  SuffixSpelt,
  InCell,
  WellFormed,
  with_answer,
  with_cell,
  with_row,
  with_suffix,
  cell_answer,
  blank,
}
use Rattle.model.specs.Learners.{Phase, Learner, view, InPhase, SplitWords, Valid}
use Rattle.model.specs.Moves.{in_phase, begun, Begins, AsksACell, HearsACell, FillsACell, AddsARow, FindsTooMany, SetsSuccessors}
use Rattle.model.proofs.Lists.{nonzero_set}
use Rattle.model.proofs.Extends.{edge_used, row_of_edge, once_kept}
use Rattle.model.proofs.Appends.{cell_place, new_answer, formed_answer, once_answer, extends_cell, formed_cell, extends_row, formed_row}
use Rattle.model.proofs.Telling.{told_answer, told_row, differ_answers, access_first}

-- What holds in the phase that a learner is in.
pub phase_at : {c : Learner} {p : Phase} → Valid c → c.phase ≡ p → InPhase c.keys c.most c.observed c.successors c.bisected c.refutes c.last p
phase_at {c} v e = subst (λ (p : Phase). InPhase c.keys c.most c.observed c.successors c.bisected c.refutes c.last p) e v.phased

-- What a learner is for others, by its phase.
pub view_at : (c : Learner) {p : Phase} → c.phase ≡ p → view (in_phase c p) ≡ view c
view_at c e = λ i. view (in_phase c (sym e i))

-- A state in which nothing is waited for, by what was told.
abbrev pub still : Learner → List Told → State
still c told = record { keys = c.keys; most = c.most; told = told; waits = 0; asked = []; hypothesis = []; rows = c.last; refuted = c.observed.letters }

pub told_cell : (n : ℕ) (b : Observations) (u e c : ℕ) → told (with_cell n b u e c) ≡ told b
unfolding told
told_cell n b u e c = refl

pub told_suffix : (b : Observations) (v : Word) → told (with_suffix b v) ≡ told b
unfolding told
told_suffix b v = refl

told_blank : (k n : ℕ) → told (blank k n) ≡ []
unfolding told
told_blank k n = refl

formed_blank : (k n : ℕ) → 1 ≤ k → k ≤ 64 → 1 ≤ n → n ≤ 1024 → WellFormed k n (blank k n)
formed_blank k n a b c d =
    record {
      limits = record {
        keys_least = a;
        keys_most = b;
        most_least = c;
        most_most = d;
        rows_least = omega arith;
        rows_most = c;
        suffixes_least = omega arith;
        suffixes_most = c;
        edges_long = refl;
        cells_long = length-replicate (suc (n * k) * n) 0;
      };
      spelt = record { row = row; empty = refl; suffix = suffix; answer = λ i h. absurd (omega arith) };
      cells = λ u e i h l p. absurd (omega (arith, p, get_or-zeros [] (suc (n * k) * n) (u * n + e)));
      apart = λ i j h l ne. absurd (ne (omega arith));
    }
  where
    row : (j : ℕ) → j < 1 → RowSpelt k (blank k n) j
    row zero h = record { earlier = omega arith; word = refl }
    row (suc j) h = absurd (omega arith)

    suffix : (e : ℕ) → e < 1 → SuffixSpelt k (blank k n) e
    suffix zero h = record { of_keys = tt; short = omega arith }
    suffix (suc e) h = absurd (omega arith)

pub begins : Begins
begins k n s a b c d =
    record {
      valid = record {
        formed = formed_blank k n a b c d;
        counted = record { narrow = omega arith; all = omega arith; tables = omega arith; shown = omega arith; halved = omega arith };
        phased = record { once = λ i j h l e. absurd (omega arith); more = omega arith; spare = omega arith };
      };
      is = ap (still (begun k n s)) (told_blank k n);
    }

pub asks_a_cell : AsksACell
asks_a_cell c u e v p asks = record { valid = record { formed = v.formed; counted = v.counted; phased = (phase_at v p, asks) }; is = refl }

pub sets_successors : SetsSuccessors
sets_successors c successors v p = record { valid = record { formed = v.formed; counted = v.counted; phased = phase_at v p }; is = view_at c p }

module _ {k n : ℕ} {b : Observations} (w : WellFormed k n b) where
  -- The answer to a cell's word is to that word.
  pub cell_answer_word : (u e a : ℕ) → word_of b (cell_answer k b u e a) ≡ edge_word k b u ++ suffix_word b e
  cell_answer_word zero e a = ap (λ (z : Word). z ++ suffix_word b e) (access_first w)
  cell_answer_word (suc v) e a = sym (append_assoc (access_word b (v / k)) (v % k ∷ []) (suffix_word b e))

  pub cell_answer_told : (u e a : ℕ) → told_of b (cell_answer k b u e a) ≡ record { word = edge_word k b u ++ suffix_word b e; shown = a }
  cell_answer_told u e a = λ i. record { word = cell_answer_word u e a i; shown = is u i }
    where
      is : (u : ℕ) → (cell_answer k b u e a).shown ≡ a
      is zero = refl
      is (suc v) = refl

  pub formed_cell_answer : (u e a : ℕ) → u < edges_used k b → e < suffixes_used b → WellFormed k n (with_answer b (cell_answer k b u e a) b.letters)
  formed_cell_answer zero e a h l =
      let s = w.spelt.suffix e l in
      formed_answer w (cell_answer k b 0 e a) b.letters (omega arith) w.limits.rows_least s.of_keys (omega (arith, s.short))
  formed_cell_answer (suc v) e a h l =
      let s = w.spelt.suffix e l in
      let r = row_of_edge w v h in
      formed_answer w (cell_answer k b (suc v) e a) b.letters (omega arith) r.0 (r.1, s.of_keys) (omega (arith, s.short))

  -- The answer to a cell's word can fill the cell.
  pub cell_answered : (u e a : ℕ) → u < edges_used k b → e < suffixes_used b → InCell k (with_answer b (cell_answer k b u e a) b.letters) u e (count b)
  cell_answered u e a h l =
      let answer = cell_answer k b u e a in
      record {
        edge_in = h;
        suffix_in = l;
        answer_in = omega (arith, length_push b.answers answer);
        word = ap (word_of b) (new_answer w answer b.letters (count b) refl) ∙ cell_answer_word u e a;
      }

pub fills_a_cell : FillsACell
fills_a_cell c u e d v p a =
    let b = c.observed in
    let n = c.most in
    let w = v.formed in
    let f = phase_at v p in
    let in_cell : InCell c.keys b u e d = record { edge_in = a.edge_in; suffix_in = a.suffix_in; answer_in = a.answer_in; word = a.word } in
    let more = nonzero_set b.cells (u * n + e) d (cell_place w u e a.edge_in a.suffix_in) a.unknown in
    record {
      valid = record {
        formed = formed_cell w u e d a.unknown in_cell;
        counted = record { narrow = v.counted.narrow; all = omega (arith, v.counted.all, more); tables = v.counted.tables; shown = v.counted.shown; halved = v.counted.halved };
        phased = record { once = once_kept w (extends_cell w u e d a.unknown) refl f.once; more = f.more; spare = f.spare };
      };
      is = ap (still c) (told_cell n b u e d) ∙ view_at c p;
    }

pub hears_a_cell : HearsACell
hears_a_cell c u e a v p =
    let b = c.observed in
    let k = c.keys in
    let n = c.most in
    let w = v.formed in
    let f = (phase_at v p).0 in
    let q = (phase_at v p).1 in
    let answer = cell_answer k b u e a in
    let heard = with_answer b answer b.letters in
    let w' = formed_cell_answer w u e a q.edge_in q.suffix_in in
    let more = nonzero_set b.cells (u * n + e) (count b) (cell_place w u e q.edge_in q.suffix_in) q.unknown in
    record {
      valid = record {
        formed = formed_cell w' u e (count b) q.unknown (cell_answered w u e a q.edge_in q.suffix_in);
        counted = record {
          narrow = v.counted.narrow;
          all = omega (arith, v.counted.all, more, length_push b.answers answer);
          tables = v.counted.tables;
          shown = v.counted.shown;
          halved = v.counted.halved;
        };
        phased = record {
          once = once_kept w' (extends_cell w' u e (count b) q.unknown) refl (once_answer w answer b.letters (omega arith) f.once (λ d h s. q.unasked d h (s ∙ cell_answer_word w u e a)));
          more = f.more;
          spare = f.spare;
        };
      };
      is = ap (still c) (told_cell n heard u e (count b) ∙ told_answer b answer b.letters ∙ ap (λ (t : Told). t ∷ told b) (cell_answer_told w u e a))
          ∙ ap (λ (st : State). hears st a) (view_at c p);
    }

pub adds_a_row : AddsARow
adds_a_row c u v p h other room =
    let b = c.observed in
    let w = v.formed in
    let f = phase_at v p in
    let long = length_push b.access (edge_word c.keys b u) in
    let more = mul-le-mul_right {m = rows b} {n = rows (with_row c.keys b u)} (bits b.letters) (omega (arith, long)) in
    record {
      valid = record {
        formed = formed_row w u h other room;
        counted = record {
          narrow = omega (arith, v.counted.narrow, long);
          all = v.counted.all;
          tables = v.counted.tables;
          shown = omega (arith, v.counted.shown, long);
          halved = omega (arith, v.counted.halved, more);
        };
        phased = record { once = once_kept w (extends_row w u) refl f.once; more = omega (arith, f.more, long); spare = omega (arith, f.spare, more) };
      };
      is = ap (still c) (told_row w u) ∙ view_at c p;
    }

-- Words that the answers c and d tell apart, with one word behind both.
pub split_by : {b : Observations} (u v s : Word) (c d : ℕ) → c < count b → d < count b → word_at b c ≡ u ++ s → word_at b d ≡ v ++ s → (shown_at b c ≡ shown_at b d → ⊥) → SplitWords b u v
split_by {b} u v s c d h l p q ne =
    let behind : s ≡ drop (length u) (word_at b c) = sym (ap (drop (length u)) p ∙ drop_at u s (length u) refl) in
    (c, h, (d, l, record { left = p ∙ ap (λ (z : Word). u ++ z) behind; right = q ∙ ap (λ (z : Word). v ++ z) behind; other = ne }))

-- An edge that differs from a row has its word told apart from the row's.
pub differ_split : {k n : ℕ} {b : Observations} → WellFormed k n b → (u j : ℕ) → u < edges_used k b → j < rows b → Differ n b u (edge_of b j) → SplitWords b (edge_word k b u) (access_word b j)
differ_split {k} {n} {b} w u j h l d =
    let a = differ_answers w u (edge_of b j) h (edge_used w j l) d in
    let behind = suffix_word b d.suffix in
    split_by (edge_word k b u) (access_word b j) behind a.0 a.1 a.2 a.3 a.4 (a.5 ∙ ap (λ (z : Word). z ++ behind) (sym (w.spelt.row j l).word)) a.6

pub finds_too_many : FindsTooMany
finds_too_many c u v p h other all =
    record {
      valid = record {
        formed = v.formed;
        counted = v.counted;
        phased = record { edge_in = h; all_rows = all; apart = λ j l. differ_split v.formed u j h l (other j l) };
      };
      is = view_at c p;
    }
