-- The end of a search by halves: one more row and one more suffix, or too many rows.
use Rattle.std.proofs.Common.{◌≡◌, ℕ, zero, suc, ◌+◌, ◌*◌, ◌<◌, ◌≤◌, List, [], ◌∷◌, ◌++◌, length, get_or, take, drop, set, sym, refl, ap, ◌∙◌, subst, inl, inr, arith, length-drop}
use Rattle.std.proofs.lemmas.List.{append_assoc, length_push, get_or_push, get_or-set_same, get_or-set_other, take_more, drop_more}
use Rattle.std.proofs.lemmas.Bool.{cases_eq}
use Rattle.std.proofs.lemmas.Nat.{div-mul-add, mod-mul-add}
use Rattle.machines.specs.Words.{Word, Keys}
use Rattle.model.specs.Bits.{bits}
use Rattle.model.specs.Observations.{
  Observations,
  rows,
  suffixes_used,
  edges_used,
  access_word,
  suffix_word,
  edge_of,
  edge_word,
  answer_at,
  word_at,
  shown_at,
  cell_at,
  seen_by,
  seen,
  Differ,
  WellFormed,
  leads_to,
  row_along,
  with_cell,
  with_suffix,
}
use Rattle.model.specs.Learners.{Bisection, Bisects, SplitWords}
use Rattle.model.specs.Moves.{last_edge, EndsABisection, EndsTooMany}
use Rattle.model.proofs.Lists.{nonzero_set}
use Rattle.model.proofs.Extends.{edge_used, used_in, differ_kept, once_kept}
use Rattle.model.proofs.Appends.{same_place, cell_place, extends_cell, formed_cell, extends_row, formed_row, extends_suffix, formed_suffix}
use Rattle.model.proofs.Telling.{told_row}
use Rattle.model.proofs.Hypotheses.{leads-append, edge_below, leads_apart}
use Rattle.model.proofs.Filling.{phase_at, view_at, still, told_cell, told_suffix, split_by, differ_split}
use Rattle.model.proofs.Bisecting.{keys_take, along_inside}

pub keys_at : (k : ℕ) (v : Word) (i : ℕ) → Keys k v → i < length v → get_or v i 0 < k
keys_at k [] i keys h = absurd (omega arith)
keys_at k (x ∷ v) zero keys h = keys.0
keys_at k (x ∷ v) (suc i) keys h = keys_at k v i keys.1 (omega arith)

zero_unless : (x : ℕ) → ((c : ℕ) → x ≡ suc c → ⊥) → x ≡ 0
zero_unless zero h = refl
zero_unless (suc c) h = absurd (h c refl)

-- A cell of a suffix that is not in use is 0.
pub unused_zero : {k n : ℕ} {b : Observations} → WellFormed k n b → (u e : ℕ) → u < edges_used k b → suffixes_used b ≤ e → e < n → cell_at n b u e ≡ 0
unused_zero {k} {n} {b} w u e h l m = zero_unless (cell_at n b u e) (λ c p. omega (arith, (w.cells u e c (used_in w u h) m p).suffix_in))

module _ {k n : ℕ} {b : Observations} {s : List ℕ} {bisected : ℕ} {l : Bisection} (w : WellFormed k n b) (x : Bisects k n b s bisected l) (near : l.hi ≡ suc l.lo) where
  -- The rest of the answer, the edge and the row that it leads to, and the suffix behind.
  abbrev rest : Word
  rest = (answer_at b l.along).rest

  abbrev edge : ℕ
  edge = last_edge k b s l

  abbrev row : ℕ
  row = get_or s edge 0

  abbrev behind : Word
  behind = drop l.hi rest

  from_in : row_along k b s l.along l.lo < rows b
  from_in = along_inside w s x.closed l.along l.lo x.along_in

  lo_in : l.lo < length rest
  lo_in = omega (arith, x.order, x.within)

  key_in : get_or rest l.lo 0 < k
  key_in = keys_at k rest l.lo (w.spelt.answer l.along x.along_in).of_keys lo_in

  below : row_along k b s l.along l.lo * k + get_or rest l.lo 0 < rows b * k
  below = edge_below w s x.closed (row_along k b s l.along l.lo) (get_or rest l.lo 0) from_in key_in

  pub edge_in : edge < edges_used k b
  edge_in = omega (arith, below)

  row_in : row < rows b
  row_in = (x.closed (row_along k b s l.along l.lo * k + get_or rest l.lo 0) below).row_in

  same : (e : ℕ) → e < suffixes_used b → seen n b edge e ≡ seen n b (edge_of b row) e
  same = (x.closed (row_along k b s l.along l.lo * k + get_or rest l.lo 0) below).same

  next_place : l.lo + 1 ≡ l.hi
  next_place = omega (arith, near)

  left_word : word_at b l.left ≡ edge_word k b edge ++ behind
  left_word =
      let q = row_along k b s l.along l.lo in
      let y = get_or rest l.lo 0 in
      x.left_word
      ∙ ap (λ (z : Word). access_word b q ++ z) (drop_more rest l.lo 0 lo_in ∙ ap (λ (i : ℕ). y ∷ drop i rest) next_place)
      ∙ sym (append_assoc (access_word b q) (y ∷ []) behind)
      ∙ (λ i. (access_word b (sym (div-mul-add q k y key_in) i) ++ (sym (mod-mul-add q k y key_in) i ∷ [])) ++ behind)

  right_word : word_at b l.right ≡ access_word b row ++ behind
  right_word =
      let from = (answer_at b l.along).row in
      let y = get_or rest l.lo 0 in
      let here = ap (λ (i : ℕ). leads_to k s from (take i rest)) (sym next_place) in
      let to = here ∙ ap (leads_to k s from) (take_more rest l.lo 0 lo_in) ∙ leads-append k s from (take l.lo rest) (y ∷ []) in
      x.right_word ∙ ap (λ (i : ℕ). access_word b i ++ behind) to

  -- The edge differs from every other row.
  others : (j : ℕ) → j < rows b → (row ≡ j → ⊥) → Differ n b edge (edge_of b j)
  others j h ne = leads_apart w s x.closed edge (edge_of b j) row j edge_in (edge_used w j h) row_in h ne same (λ e p. refl)

  -- The edge's word is told apart from all access words.
  pub split_all : (j : ℕ) → j < rows b → SplitWords b (edge_word k b edge) (access_word b j)
  split_all j h =
      elim (cases_eq row j) [
        | inl e ↦ split_by (edge_word k b edge) (access_word b j) behind l.left l.right x.left_in x.right_in left_word (right_word ∙ ap (λ (i : ℕ). access_word b i ++ behind) e) x.other
        | inr ne ↦ differ_split w edge j edge_in h (others j h ne)
      ]

  -- The edge is not the row that it led to, for then the two answers would be to one word.
  new_edge : edge_of b row ≡ edge → ⊥
  new_edge e =
      x.other (ap (shown_at b) (x.once l.left l.right x.left_in x.right_in
      (left_word ∙ ap (λ (i : ℕ). edge_word k b i ++ behind) (sym e) ∙ ap (λ (z : Word). z ++ behind) (sym (w.spelt.row row row_in).word) ∙ sym right_word)))

  -- The observations with the suffix, with the edge's cell, and with the row's cell.
  abbrev ended : Observations
  ended = with_suffix b behind

  abbrev celled : Observations
  celled = with_cell n ended edge (suffixes_used b) l.left

  abbrev split : Observations
  split = with_cell n celled (edge_of b row) (suffixes_used b) l.right

  module _ (room : suffixes_used b < n) where
    long : length (b.suffixes ++ (behind ∷ [])) ≡ suffixes_used b + 1
    long = length_push b.suffixes behind

    suffix_is : suffix_word ended (suffixes_used b) ≡ behind
    suffix_is = get_or_push b.suffixes behind [] (suffixes_used b) refl

    formed_ended : WellFormed k n ended
    formed_ended =
        let a = w.spelt.answer l.along x.along_in in
        formed_suffix w behind (keys_take k l.hi rest a.of_keys).1 (omega (arith, length-drop l.hi rest, a.short, near)) room

    edge_zero : cell_at n ended edge (suffixes_used b) ≡ 0
    edge_zero = unused_zero w edge (suffixes_used b) edge_in (omega arith) room

    formed_celled : WellFormed k n celled
    formed_celled =
        formed_cell formed_ended edge (suffixes_used b) l.left edge_zero
        record { edge_in = edge_in; suffix_in = omega (arith, long); answer_in = x.left_in; word = left_word ∙ ap (λ (z : Word). edge_word k b edge ++ z) (sym suffix_is) }

    row_zero : cell_at n celled (edge_of b row) (suffixes_used b) ≡ 0
    row_zero =
        get_or-set_other b.cells (edge * n + suffixes_used b) (edge_of b row * n + suffixes_used b) (suc l.left) 0 (λ e. new_edge (same_place n (edge_of b row) (suffixes_used b) edge (suffixes_used b) room room e).0)
        ∙ unused_zero w (edge_of b row) (suffixes_used b) (edge_used w row row_in) (omega arith) room

    formed_split : WellFormed k n split
    formed_split =
        formed_cell formed_celled (edge_of b row) (suffixes_used b) l.right row_zero
        record {
          edge_in = edge_used w row row_in;
          suffix_in = omega (arith, long);
          answer_in = x.right_in;
          word = right_word ∙ (λ i. (w.spelt.row row row_in).word i ++ sym suffix_is i);
        }

    edge_place : edge * n + suffixes_used b < length b.cells
    edge_place = cell_place formed_ended edge (suffixes_used b) edge_in (omega (arith, long))

    row_place : edge_of b row * n + suffixes_used b < length celled.cells
    row_place = cell_place formed_celled (edge_of b row) (suffixes_used b) (edge_used w row row_in) (omega (arith, long))

    edge_cell : cell_at n split edge (suffixes_used b) ≡ suc l.left
    edge_cell =
        let more = extends_cell formed_celled (edge_of b row) (suffixes_used b) l.right row_zero in
        more.cell_kept edge (suffixes_used b) l.left (get_or-set_same b.cells (edge * n + suffixes_used b) (suc l.left) 0 edge_place)

    row_cell : cell_at n split (edge_of b row) (suffixes_used b) ≡ suc l.right
    row_cell = get_or-set_same celled.cells (edge_of b row * n + suffixes_used b) (suc l.right) 0 row_place

    -- In the new column the edge and the row show different things.
    differ_here : Differ n split edge (edge_of b row)
    differ_here =
        let one : seen n split edge (suffixes_used b) ≡ suc (shown_at b l.left) = ap (seen_by split) edge_cell in
        let two : seen n split (edge_of b row) (suffixes_used b) ≡ suc (shown_at b l.right) = ap (seen_by split) row_cell in
        record {
          suffix = suffixes_used b;
          suffix_in = omega (arith, long);
          left = omega (arith, one);
          right = omega (arith, two);
          other = λ e. x.other (omega (arith, one, two, e));
        }

    -- What differed still does.
    differ_still : (j : ℕ) → j < rows b → Differ n b edge (edge_of b j) → Differ n split edge (edge_of b j)
    differ_still j h d =
        let used = edge_used w j h in
        differ_kept formed_celled (extends_cell formed_celled (edge_of b row) (suffixes_used b) l.right row_zero) edge (edge_of b j) edge_in used
        (differ_kept formed_ended (extends_cell formed_ended edge (suffixes_used b) l.left edge_zero) edge (edge_of b j) edge_in used
        (differ_kept w (extends_suffix w behind) edge (edge_of b j) edge_in used d))

    differ_all : (j : ℕ) → j < rows b → Differ n split edge (edge_of b j)
    differ_all j h =
        elim (cases_eq row j) [
          | inl e ↦ subst (λ (i : ℕ). Differ n split edge (edge_of b i)) e differ_here
          | inr ne ↦ differ_still j h (others j h ne)
        ]

pub ends_too_many : EndsTooMany
ends_too_many c l v p near all =
    let x = phase_at v p in
    record { valid = record { formed = v.formed; counted = v.counted; phased = record { edge_in = edge_in v.formed x near; all_rows = all; apart = split_all v.formed x near } }; is = view_at c p }

pub ends_a_bisection : EndsABisection
ends_a_bisection c l v p near few =
    let b = c.observed in
    let k = c.keys in
    let n = c.most in
    let s = c.successors in
    let w = v.formed in
    let x = phase_at v p in
    let u = last_edge k b s l in
    let r = edge_of b (get_or s u 0) in
    let e = suffixes_used b in
    let suffix = drop l.hi (answer_at b l.along).rest in
    let room : e < n = omega (arith, v.counted.narrow) in
    let wc = formed_celled w x near room in
    let ws = formed_split w x near room in
    let one = nonzero_set b.cells (u * n + e) l.left (edge_place w x near room) (edge_zero w x near room) in
    let two = nonzero_set (set b.cells (u * n + e) (suc l.left)) (r * n + e) l.right (row_place w x near room) (row_zero w x near room) in
    let with_two = with_cell n (with_cell n (with_suffix b suffix) u e l.left) r e l.right in
    let long = length_push b.access (edge_word k with_two u) in
    let wide = length_push b.suffixes suffix in
    let more = ap (λ (z : ℕ). z * bits b.letters) long in
    record {
      valid = record {
        formed = formed_row ws u (edge_in w x near) (differ_all w x near room) few;
        counted = record {
          narrow = omega (arith, v.counted.narrow, long, wide);
          all = omega (arith, v.counted.all, one, two);
          tables = v.counted.tables;
          shown = omega (arith, v.counted.shown, long);
          halved = omega (arith, v.counted.halved, more);
        };
        phased = record {
          once = once_kept ws (extends_row ws u) refl
              (once_kept wc (extends_cell wc r e l.right (row_zero w x near room)) refl
              (once_kept (formed_ended w x near room) (extends_cell (formed_ended w x near room) u e l.left (edge_zero w x near room)) refl
              (once_kept w (extends_suffix w suffix) refl x.once)));
          more = omega (arith, v.counted.shown, long);
          spare = omega (arith, v.counted.halved, more);
        };
      };
      is = ap (still c) (told_row ws u ∙ told_cell n (with_cell n (with_suffix b suffix) u e l.left) r e l.right ∙ told_cell n (with_suffix b suffix) u e l.left ∙ told_suffix b suffix) ∙ view_at c p;
    }
