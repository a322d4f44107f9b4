-- A cell whose word was told of is filled, and one whose word was not is asked about.
use Rattle.std.proofs.Common.{◌≡◌, ℕ, zero, suc, ◌+◌, ◌*◌, ◌^◌, ◌<◌, ◌≤◌, List, ◌++◌, length, get_or, set, Some, None, sym, ap, ◌∙◌, subst, arith}
use native.Mathlib.Decide.{ℕ_discrete}
use Rattle.std.proofs.lemmas.Nat.{div_below}
use Rattle.std.proofs.lemmas.List.{get_or-set_same, get_or-set_other}
use Rattle.areas.specs.declared.records.Record.{Record}
use Rattle.areas.specs.Layout.{Dims, Limits}
use Rattle.model.specs.Observations.{Observations, rows, suffixes_used, edges_used, suffix_word, edge_word, word_of, cell_at, seen_by, seen, New}
use Rattle.model.specs.Learners.{asks_cell}
use Rattle.model.specs.Pages.{Entry, Page, answer_of, observations_of, Within, set_cell, cell_entry}
use Rattle.model.specs.Models.{Model, observed_in, model_in}
use Rattle.model.proofs.Appends.{cell_place}
use Rattle.model.proofs.Filling.{cell_answer_word}
use Rattle.model.proofs.Paging.{model_asks_cell, model_fills_cell}
use Rattle.model.proofs.Spans.{suffixes_long, entries_long, cell_entry_is, spans_cell_entry}
use Rattle.store.specs.Decoding.{entry_of, page_of, model_of}
use Rattle.moves.specs.Additions.{CellSet}
use Rattle.moves.specs.Holding.{Holds, Settles}
use Rattle.moves.specs.Making.{Makes, ChangesBy}
use Rattle.moves.specs.Observed.{observed_at, page_at}
use Rattle.moves.proofs.Standing.{answers_fit, answers_bounded}
use Rattle.moves.proofs.Holding.{turned_by, settles_asking, on_filling}
use Rattle.lookup.specs.Named.{Named, named_word, AllNamed, AnswerTo}
use Rattle.lookup.proofs.Held.{as_page, holds_named}
use Rattle.filling.specs.Filled.{Filling, CellFilled}

-- The row of a cell's entry is one of the rows.
row_of_cell : (k n : ℕ) (p : Page) (u e a : ℕ) → 1 ≤ k → 1 ≤ length p.access → u < suc (length p.access * k) → (cell_entry k p u e a).row < length p.access
row_of_cell k n p zero e a hk hr h = hr
row_of_cell k n p (suc v) e a hk hr h = div_below v k (length p.access) hk (omega arith)

module _ (w : List ℕ) (d : Dims) (u e a : ℕ) (r : Record) (h : Holds w d) (hu : u < edges_used d.keys (observed_at w d)) (he : e < suffixes_used (observed_at w d)) (is : entry_of r ≡ cell_entry d.keys (page_at w d) u e a) where
  -- The record of a cell's word is of a row and a part of the log.
  pub cell_named : Named (page_of w d) r
  unfolding model_of
  cell_named =
      let formed = h.valid.valid.formed in
      let row : r.row ≡ (cell_entry d.keys (page_at w d) u e a).row = ap (λ (z : Entry). z.row) is in
      let inside = row_of_cell d.keys d.most (page_at w d) u e a formed.limits.keys_least formed.limits.rows_least hu in
      let within = spans_cell_entry (page_at w d) d.keys u e a h.valid.spans (omega (arith, he, suffixes_long (page_at w d))) in
      as_page w d (λ p. Named p r) (record { row_in = omega (arith, row, inside); part_in = subst (λ (z : Entry). Within (page_at w d).log z.span) (sym is) within })

  -- It names the word of the cell.
  pub cell_word_named : named_word (page_of w d) r ≡ edge_word d.keys (observed_at w d) u ++ suffix_word (observed_at w d) e
  unfolding model_of
  cell_word_named =
      as_page w d (λ p. named_word p r ≡ edge_word d.keys (observed_at w d) u ++ suffix_word (observed_at w d) e)
      (ap (λ (z : Entry). word_of (observed_at w d) (answer_of (page_at w d).log z)) is
      ∙ ap (word_of (observed_at w d)) (cell_entry_is (page_at w d) d.keys u e a)
      ∙ cell_answer_word h.valid.valid.formed u e a)

-- Cells that are not 0 stay so where one of them is filled.
known_still : (b : Observations) (p c q : ℕ) → p < length b.cells → 0 < seen_by b (get_or b.cells q 0) → 0 < seen_by b (get_or (set b.cells p (suc c)) q 0)
known_still b p c q h l =
    elim (ℕ_discrete q p) [
      | yes e ↦ subst (λ (z : ℕ). 0 < seen_by b z) (sym (ap (λ (z : ℕ). get_or (set b.cells p (suc c)) z 0) e ∙ get_or-set_same b.cells p (suc c) 0 h)) (omega arith)
      | no ne ↦ subst (λ (z : ℕ). 0 < seen_by b z) (sym (get_or-set_other b.cells p q (suc c) 0 ne)) l
    ]

module _ (w w' : List ℕ) (d : Dims) (u e : ℕ) (r : Record) (word : List ℕ) (f : Filling w d) (hu : u < edges_used d.keys (observed_at w d)) (he : e < suffixes_used (observed_at w d)) (unknown : cell_at d.most (observed_at w d) u e ≡ 0)
    (kept : e < length (page_at w d).suffixes → entry_of r ≡ cell_entry d.keys (page_at w d) u e 0) (spells : Named (page_of w d) r → word ≡ named_word (page_of w d) r) where
  -- The word that is looked up is the cell's.
  cell_spelt : word ≡ edge_word d.keys (observed_at w d) u ++ suffix_word (observed_at w d) e
  cell_spelt =
      let is = kept (omega (arith, he, suffixes_long (page_at w d))) in
      spells (cell_named w d u e 0 r f.holds hu he is) ∙ cell_word_named w d u e 0 r f.holds hu he is

  -- The word of the cell is asked about.
  pub cell_asked : (AllNamed w d → AnswerTo (observations_of (page_of w d)) word None) → ChangesBy w w' d (λ m. model_in m (asks_cell u e)) → Settles w w' d
  unfolding model_of
  cell_asked found entered =
      let new = subst (New (observed_at w d)) cell_spelt (found (holds_named w d f.holds)) in
      settles_asking (edge_word d.keys (observed_at w d) u ++ suffix_word (observed_at w d) e)
      (turned_by (entered f.holds.long) (model_asks_cell (model_of w d) u e f.holds.valid f.phase (record { edge_in = hu; suffix_in = he; unknown = unknown; unasked = new })))

  -- The cell takes the answer to its word.
  pub cell_taken : (c : ℕ) → Limits d → length w < 2 ^ 64 → (AllNamed w d → AnswerTo (observations_of (page_of w d)) word (Some c)) → CellSet w w' d u e c → CellFilled w w' d u e
  unfolding model_of
  cell_taken c l short found written =
      let m = model_of w d in
      let answer = found (holds_named w d f.holds) in
      let p = set_cell d.most m.page u e c in
      let few : c < 4294967295 = omega (arith, answer.0, entries_long m.page, answers_fit w d short f.holds.valid, answers_bounded d l) in
      let made = subst (Makes w w' d) (on_filling m p f.phase) (written few) in
      let is : observed_at w' d ≡ observations_of p = ap observed_in made.moves.model in
      let place = cell_place f.holds.valid.valid.formed u e hu he in
      let here : 0 < seen d.most (observations_of p) u e = subst (λ (z : ℕ). 0 < seen_by (observations_of p) z) (sym (get_or-set_same m.page.cells (u * d.most + e) (suc c) 0 place)) (omega arith) in
      record {
        fills = record {
          turned = turned_by made (model_fills_cell m u e c f.holds.valid f.phase (record { edge_in = hu; suffix_in = he; unknown = unknown; answer_in = answer.0; word = answer.1 ∙ cell_spelt }));
          phase = ap (λ (z : Model). z.phase) made.moves.model;
          as_many_rows = ap rows is;
          as_many_suffixes = ap suffixes_used is;
          kept = λ v g l. subst (λ (b : Observations). 0 < seen d.most b v g) (sym is) (known_still (observed_at w d) (u * d.most + e) c (v * d.most + g) place l);
        };
        known = subst (λ (b : Observations). 0 < seen d.most b u e) (sym is) here;
      }
