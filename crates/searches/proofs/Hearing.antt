-- What an answer to the middle's word writes.
use Rattle.std.proofs.Common.{◌≡◌, ℕ, suc, ◌+◌, ◌-◌, ◌^◌, ◌<◌, ◌≤◌, min, List, length, sym, ap, ◌∙◌, subst, add-one, arith}
use Rattle.std.proofs.lemmas.List.{length_push}
use Rattle.areas.specs.declared.records.Record.{Record}
use Rattle.areas.specs.Layout.{Dims}
use Rattle.model.specs.Observations.{count}
use Rattle.model.specs.Learners.{Bisection, middle, bisecting, asks_middle, waits_in, Bisects, AsksAlong}
use Rattle.model.specs.Moves.{narrowed}
use Rattle.model.specs.Pages.{Entry, observations_of, add_entry, mixed_entry}
use Rattle.model.specs.Models.{Model, observed_in, with_page, model_in, model_hear_middle}
use Rattle.model.proofs.Filling.{phase_at}
use Rattle.model.proofs.Spans.{entries_long}
use Rattle.store.specs.Decoding.{entry_of, model_of}
use Rattle.moves.specs.declared.phase.Search.{Search}
use Rattle.moves.specs.Additions.{EntryAdded}
use Rattle.moves.specs.Changes.{bisected_by}
use Rattle.moves.specs.Holding.{Holds}
use Rattle.moves.specs.Making.{Makes, MakesBy, ChangesBy}
use Rattle.moves.specs.Observed.{observed_at, page_at}
use Rattle.moves.specs.Phases.{search_value}
use Rattle.moves.proofs.Holding.{as_dims, as_model}
use Rattle.moves.proofs.Standing.{makes_by_then, answer_fits}
use Rattle.walks.specs.Along.{PlaceIn, Mixed}
use Rattle.searches.specs.Searching.{Halves}
use Rattle.searches.proofs.Few.{few_of}

-- A search whose middle is asked about.
asked : (w : List ℕ) (d : Dims) (l : Bisection) → Holds w d → (model_of w d).phase ≡ asks_middle l → Bisects d.keys d.most (observed_at w d) (model_of w d).successors (model_of w d).bisected l × AsksAlong d.keys (observed_at w d) (model_of w d).successors l
asked w d l h p =
    as_dims w d (λ k n. Bisects k n (observed_at w d) (model_of w d).successors (model_of w d).bisected l × AsksAlong k (observed_at w d) (model_of w d).successors l) (phase_at h.valid.valid p)

-- One write after another: the answer, how often one was got in a search, and the phase.
pub heard : (w w₁ w₂ w' : List ℕ) (d : Dims) (s r : Search) (place told times more answer : ℕ) (e : Record) → length w < 2 ^ 64
    → told ≡ length (page_at w d).entries
    → (s.low ≤ s.high → place ≡ middle (search_value s))
    → Mixed w d s.along place answer e
    → EntryAdded w w₁ d e
    → times ≡ (model_of w₁ d).bisected
    → more ≡ min (times + 1) (2 ^ 32 - 1)
    → ChangesBy w₁ w₂ d (λ m. bisected_by m more)
    → Halves w₂ d s told r
    → ChangesBy w₂ w' d (λ m. model_in m (bisecting (search_value r)))
    → Holds w d → (model_of w d).phase ≡ asks_middle (search_value s)
    → MakesBy w w' d (λ m. model_hear_middle m (search_value s) answer)
heard w w₁ w₂ w' d s r place told times more answer e short counts here mixes adds reads grows sets halves enters h p =
    let m = model_of w d in
    let page = page_at w d in
    let l = search_value s in
    let n = length page.entries in
    let x = (asked w d l h p).0 in
    let wide = (asked w d l h p).1.wide in
    let is = here (omega arith) in
    let at : PlaceIn w d s.along (middle l) = record { held = h; answer_in = x.along_in; some = omega arith; within = omega (arith, x.within) } in
    let entry = (mixes (subst (PlaceIn w d s.along) (sym is) at) x.closed).entry ∙ ap (λ (z : ℕ). mixed_entry d.keys page m.successors s.along z answer) is in
    let m₁ = adds h.long (answer_fits w d short h.valid (omega (arith, ap waits_in p))) in
    let m₂ = makes_by_then (λ (z : Model). bisected_by z more) m₁ (sets (m₁.moves.long ∙ h.long)) in
    let m₃ = makes_by_then (λ (z : Model). model_in z (bisecting (search_value r))) m₂ (enters (m₂.moves.long ∙ h.long)) in
    let once : more ≡ suc m.bisected = omega (arith, grows, reads, ap (λ (z : Model). z.bisected) m₁.moves.model, (few_of w d short h.valid).bisected) in
    let all : count (observed_at w₂ d) ≡ suc n = ap (λ (z : Model). count (observed_in z)) m₂.moves.model ∙ sym (entries_long (add_entry page (entry_of e))) ∙ length_push page.entries (entry_of e) ∙ add-one n in
    let half = halves (record { told_in = omega (arith, all, counts); left_in = omega (arith, all, x.left_in, entries_long page); order = omega (arith, wide) })
    ∙ (λ i. narrowed (observed_in (m₂.moves.model i)) l (counts i)) ∙ ap (λ (z : Entry). narrowed (observations_of (add_entry page z)) l n) entry in
    as_model w d (λ k q. Makes w w' d (with_page m (add_entry page (mixed_entry k page m.successors s.along (middle l) answer)) m.successors (suc m.bisected) m.refutes m.last (bisecting (narrowed (observations_of (add_entry page (mixed_entry k page m.successors s.along (middle l) answer))) l n))))
    (subst (Makes w w' d) (λ i. with_page m (add_entry page (entry i)) m.successors (once i) m.refutes m.last (bisecting (half i))) m₃)
