-- What the end of a search writes.
use Rattle.std.proofs.Common.{◌≡◌, ℕ, suc, ◌+◌, ◌*◌, ◌^◌, ◌<◌, List, [], length, get_or, sym, refl, ap, ◌∙◌, subst, arith}
use Rattle.machines.specs.Words.{Word}
use Rattle.areas.specs.declared.spans.Span as stored
use Rattle.areas.specs.Layout.{Dims}
use Rattle.model.specs.Observations.{rows, edge_of, row_along, answer_at}
use Rattle.model.specs.Learners.{filling}
use Rattle.model.specs.Moves.{last_edge}
use Rattle.model.specs.Pages.{Page, Span, set_cell, add_row, add_suffix}
use Rattle.model.specs.Models.{Model, model_in, model_filling, split_page}
use Rattle.model.proofs.Spans.{suffixes_long, entries_long}
use Rattle.store.specs.Decoding.{model_of}
use Rattle.moves.specs.declared.phase.Search.{Search}
use Rattle.moves.specs.Additions.{CellSet, SuffixAdded, RowAdded}
use Rattle.moves.specs.Changes.{on_page}
use Rattle.moves.specs.Making.{Makes, ChangesBy}
use Rattle.moves.specs.Observed.{observed_at, page_at}
use Rattle.moves.specs.Phases.{search_value}
use Rattle.moves.specs.Spelling.{EdgeIn}
use Rattle.moves.proofs.Holding.{as_model}
use Rattle.moves.proofs.Standing.{makes_by_then, edge_stands}
use Rattle.walks.specs.Along.{PlaceIn, Behind}
use Rattle.walks.proofs.Following.{held_formed}
use Rattle.searches.specs.Searching.{Searching, Splits}
use Rattle.searches.proofs.Searched.{searched}
use Rattle.searches.proofs.Edges.{last_used}
use Rattle.searches.proofs.Few.{few_of}

-- An edge can still be read after a write that leaves the access words, and there are as many rows.
still_in : {w w' : List ℕ} {d : Dims} {m : Model} (u : ℕ) → Makes w w' d m → m.page.access ≡ (page_at w d).access → EdgeIn w d u → EdgeIn w' d u × (rows (observed_at w' d) ≡ rows (observed_at w d))
still_in {w} {w'} {d} {m} u t same h =
    let e : (page_at w' d).access ≡ (page_at w d).access = ap (λ (z : Model). z.page.access) t.moves.model ∙ same in
    let there = subst (λ (a : List Word). u < suc (length a * d.keys)) (sym e) h.there in
    let short = subst (λ (a : List Word). (j : ℕ) → j < length a → length (get_or a j []) < d.most) (sym e) h.short in
    (record { long = t.moves.long ∙ h.long; few = omega (arith, ap length e, h.few); there = there; short = short }, ap length e)

-- A page with a suffix, two cells of it and a row more.
abbrev splitting : ℕ → ℕ → Page → Span → ℕ → ℕ → ℕ → ℕ → ℕ → Page
splitting k n p span u v e left right = add_row k (set_cell n (set_cell n (add_suffix p span) u e left) v e right) u

-- The row that the edge leads to is there.
pub leads_in : (w : List ℕ) (d : Dims) (s : Search) → Searching w d s → get_or (model_of w d).successors (last_edge d.keys (observed_at w d) (model_of w d).successors (search_value s)) 0 < rows (observed_at w d)
leads_in w d s h =
    let x = searched w d s h in
    let b = observed_at w d in
    (x.closed (row_along d.keys b (model_of w d).successors s.along s.low * d.keys + get_or (answer_at b s.along).rest s.low 0) (omega (arith, last_used (held_formed w d h.held) x))).row_in

-- One write after another: a suffix, two cells, a row, and the phase.
pub split_made : (w w₁ w₂ w₃ w₄ w' : List ℕ) (d : Dims) (s : Search) (edge row other suffix : ℕ) (span : stored.Span) → length w < 2 ^ 64
    → (Searching w d s → edge ≡ last_edge d.keys (observed_at w d) (model_of w d).successors (search_value s))
    → row ≡ get_or (model_of w d).successors edge 0
    → (row < rows (observed_at w d) → other ≡ edge_of (observed_at w d) row)
    → suffix ≡ length (page_at w d).suffixes → Behind w d s.along s.high span
    → SuffixAdded w w₁ d span → CellSet w₁ w₂ d edge suffix s.left → CellSet w₂ w₃ d other suffix s.right → RowAdded w₃ w₄ d edge → ChangesBy w₄ w' d (λ m. model_in m filling)
    → Splits w w' d s
split_made w w₁ w₂ w₃ w₄ w' d s edge row other suffix span fits last leads edges suffixes behind t₁ t₂ t₃ t₄ t₅ h room =
    let m = model_of w d in
    let p = page_at w d in
    let b = observed_at w d in
    let l = search_value s in
    let long = h.held.long in
    let x = searched w d s h in
    let few = (few_of w d fits h.held.valid).answers in
    let u = last h in
    let to = leads ∙ ap (λ (z : ℕ). get_or m.successors z 0) u in
    let v = edges (omega (arith, to, leads_in w d s h)) ∙ ap (edge_of b) to in
    let at : PlaceIn w d s.along s.high = record { held = h.held; answer_in = x.along_in; some = omega (arith, x.order); within = x.within } in
    let in_use : EdgeIn w d edge = edge_stands w d edge long h.held.valid (omega (arith, u, last_used (held_formed w d h.held) x)) in
    let m₁ = t₁ long (omega (arith, room, suffixes_long p, h.held.valid.valid.counted.narrow)) in
    let m₂ = makes_by_then (λ (z : Model). on_page z (set_cell d.most z.page edge suffix s.left)) m₁ (t₂ (omega (arith, few, x.left_in, entries_long p))) in
    let m₃ = makes_by_then (λ (z : Model). on_page z (set_cell d.most z.page other suffix s.right)) m₂ (t₃ (omega (arith, few, x.right_in, entries_long p))) in
    let still = still_in edge m₃ refl in_use in
    let m₄ = makes_by_then (λ (z : Model). on_page z (add_row d.keys z.page edge)) m₃ (t₄ still.0 (omega (arith, room, still.1))) in
    let m₅ = makes_by_then (λ (z : Model). model_in z filling) m₄ (t₅ (m₄.moves.long ∙ long)) in
    as_model w d (λ k n. Makes w w' d (model_filling m (split_page k n p m.successors l)))
    (subst (Makes w w' d) (λ i. model_filling m (splitting d.keys d.most p (behind at i) (u i) (v i) (suffixes i) s.left s.right)) m₅)
