-- The answer to a cell's word is kept: an entry, a cell, a phase.
use Rattle.std.proofs.Common.{◌≡◌, ℕ, ◌^◌, ◌<◌, List, length, ap, ◌∙◌, subst, arith}
use Rattle.areas.specs.declared.records.Record.{Record}
use Rattle.areas.specs.Layout.{Dims, Limits}
use Rattle.model.specs.Learners.{filling, asks_cell, waits_in, InPhase}
use Rattle.model.specs.Pages.{Entry, add_entry, set_cell, cell_entry}
use Rattle.model.specs.Models.{observed_in, model_in, model_filling, heard_cell}
use Rattle.model.proofs.Spans.{suffixes_long}
use Rattle.store.specs.Decoding.{entry_of, model_of}
use Rattle.moves.specs.Additions.{EntryAdded, CellSet}
use Rattle.moves.specs.Changes.{on_page}
use Rattle.moves.specs.Holding.{Holds}
use Rattle.moves.specs.Making.{Makes, MakesBy, ChangesBy}
use Rattle.moves.specs.Observed.{page_at}
use Rattle.moves.proofs.Standing.{answer_fits, answers_bounded, makes_by_then}

-- The model after the three writes is the one after the answer.
heard_model : (w : List ℕ) (d : Dims) (u e a number : ℕ) (x : Entry) → x ≡ cell_entry d.keys (page_at w d) u e a → number ≡ length (page_at w d).entries → model_filling (model_of w d) (set_cell d.most (add_entry (page_at w d) x) u e number) ≡ model_filling (model_of w d) (heard_cell (model_of w d).keys (model_of w d).most (page_at w d) u e a)
unfolding model_of
heard_model w d u e a number x p q = λ i. model_filling (model_of w d) (set_cell d.most (add_entry (page_at w d) (p i)) u e (q i))

-- The suffix of the cell that is asked about is in use.
pub asked_suffix : (w : List ℕ) (d : Dims) (u e : ℕ) → Holds w d → (model_of w d).phase ≡ asks_cell u e → e < length (page_at w d).suffixes
asked_suffix w d u e h f =
    let m = model_of w d in
    let in_phase = subst (InPhase m.keys m.most (observed_in m) m.successors m.bisected m.refutes m.last) f h.valid.valid.phased in
    omega (arith, in_phase.1.suffix_in, suffixes_long m.page)

pub cell_heard : (w w₁ w₂ w' : List ℕ) (d : Dims) (u e a number : ℕ) (r : Record) → Limits d → length w < 2 ^ 64 → Holds w d → (model_of w d).phase ≡ asks_cell u e → number ≡ length (page_at w d).entries → (e < length (page_at w d).suffixes → entry_of r ≡ cell_entry d.keys (page_at w d) u e a) → EntryAdded w w₁ d r → CellSet w₁ w₂ d u e number → ChangesBy w₂ w' d (λ m. model_in m filling) → MakesBy w w' d (λ m. model_filling m (heard_cell m.keys m.most m.page u e a))
cell_heard w w₁ w₂ w' d u e a number r l few h f q entry added set entered =
    let m = model_of w d in
    let waits : waits_in m.phase ≡ 1 = ap waits_in f in
    let room = answer_fits w d few h.valid (omega (arith, waits)) in
    let first = added h.long room in
    let second = makes_by_then (λ z. on_page z (set_cell d.most z.page u e number)) first (set (omega (arith, room, q, answers_bounded d l))) in
    let third = makes_by_then (λ z. model_in z filling) second (entered (second.moves.long ∙ h.long)) in
    subst (Makes w w' d) (heard_model w d u e a number (entry_of r) (entry (asked_suffix w d u e h f)) q) third
