-- Where the words of the answers of a valid learner lead.
use Rattle.std.proofs.Common.{◌≡◌, ℕ, suc, ◌<◌, List, length, take, Option, sym, ap, ◌∙◌, arith}
use Rattle.std.proofs.lemmas.List.{take_all}
use Rattle.machines.specs.Words.{Word}
use Rattle.areas.specs.declared.records.Record.{Record}
use Rattle.areas.specs.Layout.{Dims}
use Rattle.model.specs.Observations.{Answer, count, rows, edge_of, answer_at, shown_at, seen, WellFormed, leads_to, end_row, row_along, Closed}
use Rattle.model.specs.Pages.{Entry, entry_at}
use Rattle.model.proofs.Spans.{answer_is, entries_long}
use Rattle.model.proofs.Extends.{used_in, edge_used}
use Rattle.model.proofs.Hypotheses.{leads_inside}
use Rattle.store.specs.Decoding.{entry_of, page_of, model_of}
use Rattle.moves.specs.Holding.{Holds}
use Rattle.moves.specs.Observed.{observed_at, page_at, seen_value, SeenIn}
use Rattle.moves.proofs.Holding.{as_dims}
use Rattle.moves.proofs.Standing.{cell_stands}
use Rattle.lookup.specs.Named.{Named, named_rest}
use Rattle.lookup.proofs.Held.{entry_named, entry_rest}

-- The observations of a valid learner are well formed.
pub held_formed : (w : List ℕ) (d : Dims) → Holds w d → WellFormed d.keys d.most (observed_at w d)
held_formed w d h = as_dims w d (λ k n. WellFormed k n (observed_at w d)) h.valid.valid.formed

-- Each answer below their number is there.
pub answer_there : (w : List ℕ) (d : Dims) (n c : ℕ) → n ≡ length (page_at w d).entries → c < n → c < count (observed_at w d)
answer_there w d n c e h = omega (arith, entries_long (page_at w d))

-- A record that was read as answer c, and letters that were read as its rest.
pub record ReadAnswer (w : List ℕ) (d : Dims) (c : ℕ) (r : Record) (rest : Word) : Type 0 where
  pub answer : c < length (page_at w d).entries → entry_of r ≡ entry_at (page_at w d) c
  pub letters : Named (page_of w d) r → rest ≡ named_rest (page_of w d) r

-- They are the answer's row and rest.
pub answer_read : (w : List ℕ) (d : Dims) (c : ℕ) (r : Record) (rest : Word) → Holds w d → c < count (observed_at w d) → ReadAnswer w d c r rest → (r.row ≡ (answer_at (observed_at w d) c).row) × (rest ≡ (answer_at (observed_at w d) c).rest)
answer_read w d c r rest h l read =
    let inside : c < length (page_at w d).entries = omega (arith, entries_long (page_at w d)) in
    let e = read.answer inside in (
      ap (λ (z : Entry). z.row) e ∙ sym (ap (λ (z : Answer). z.row) (answer_is (page_at w d) c)),
      read.letters (entry_named w d c r h inside e) ∙ entry_rest w d c r e,
    )

-- All letters of an answer's rest lead to its last row.
pub ends_at : (w : List ℕ) (d : Dims) (c : ℕ) (r : Record) (rest : Word) (row n : ℕ) → Holds w d → c < count (observed_at w d) → ReadAnswer w d c r rest → n ≡ length rest → row ≡ leads_to d.keys (model_of w d).successors r.row (take n rest) → row ≡ end_row d.keys (observed_at w d) (model_of w d).successors c
ends_at w d c r rest row n h l read q e =
    let s = answer_read w d c r rest h l read in
    e ∙ ap (leads_to d.keys (model_of w d).successors r.row) (take_all n rest (omega arith))
    ∙ (λ i. leads_to d.keys (model_of w d).successors (s.0 i) (s.1 i))

-- The last row of an answer's word is there.
pub end_inside : (w : List ℕ) (d : Dims) (c : ℕ) → Holds w d → Closed d.keys d.most (observed_at w d) (model_of w d).successors → c < count (observed_at w d) → end_row d.keys (observed_at w d) (model_of w d).successors c < rows (observed_at w d)
end_inside w d c h closed l =
    let formed = held_formed w d h in
    let a = formed.spelt.answer c l in
    leads_inside formed (model_of w d).successors closed (answer_at (observed_at w d) c).row (answer_at (observed_at w d) c).rest a.row_in a.of_keys

-- What an answer showed, by its record.
pub shown_read : (w : List ℕ) (d : Dims) (c : ℕ) (r : Record) → c < count (observed_at w d) → (c < length (page_at w d).entries → entry_of r ≡ entry_at (page_at w d) c) → r.shown ≡ shown_at (observed_at w d) c
shown_read w d c r l read =
    ap (λ (z : Entry). z.shown) (read (omega (arith, entries_long (page_at w d)))) ∙ sym (ap (λ (z : Answer). z.shown) (answer_is (page_at w d) c))

-- What is seen at a row's edge before the first suffix.
pub seen_first : (w : List ℕ) (d : Dims) (row edge : ℕ) (cell : Option ℕ) → Holds w d → row < rows (observed_at w d) → (row < rows (observed_at w d) → edge ≡ edge_of (observed_at w d) row) → SeenIn w d edge 0 cell → seen_value cell ≡ seen d.most (observed_at w d) (edge_of (observed_at w d) row) 0
seen_first w d row edge cell h l e sees =
    let formed = held_formed w d h in
    let there = e l in
    sees (cell_stands w d edge 0 h.valid (omega (arith, there, used_in formed (edge_of (observed_at w d) row) (edge_used formed row l))) (omega (arith, formed.limits.most_least)))
    ∙ ap (λ (u : ℕ). seen d.most (observed_at w d) u 0) there

-- What is seen at the end of an answer's word, and what the answer showed.
pub compared : (w : List ℕ) (d : Dims) (c row edge : ℕ) (r : Record) (cell : Option ℕ) → Holds w d → Closed d.keys d.most (observed_at w d) (model_of w d).successors → c < count (observed_at w d) → row ≡ end_row d.keys (observed_at w d) (model_of w d).successors c → (row < rows (observed_at w d) → edge ≡ edge_of (observed_at w d) row) → (c < length (page_at w d).entries → entry_of r ≡ entry_at (page_at w d) c) → SeenIn w d edge 0 cell
    → (seen_value cell ≡ seen d.most (observed_at w d) (edge_of (observed_at w d) (end_row d.keys (observed_at w d) (model_of w d).successors c)) 0) × (suc r.shown ≡ suc (shown_at (observed_at w d) c))
compared w d c row edge r cell h closed l q e read sees = (
  seen_first w d row edge cell h (omega (arith, q, end_inside w d c h closed l)) e sees ∙ ap (λ (z : ℕ). seen d.most (observed_at w d) (edge_of (observed_at w d) z) 0) q,
  ap suc (shown_read w d c r l read),
)

-- The first letters of an answer's rest lead along it.
pub along_at : (w : List ℕ) (d : Dims) (c : ℕ) (r : Record) (rest : Word) (row n : ℕ) → Holds w d → c < count (observed_at w d) → ReadAnswer w d c r rest → row ≡ leads_to d.keys (model_of w d).successors r.row (take n rest) → row ≡ row_along d.keys (observed_at w d) (model_of w d).successors c n
along_at w d c r rest row n h l read e =
    let s = answer_read w d c r rest h l read in
    e ∙ (λ i. leads_to d.keys (model_of w d).successors (s.0 i) (take n (s.1 i)))
