-- Successors that are written one after the other.
use Rattle.std.proofs.Common.{◌≡◌, ℕ, suc, ◌+◌, ◌*◌, ◌<◌, List, length, get_or, set, Some, None, sym, refl, ap, ◌∙◌, subst, ⊎_elim, mul-le-mul_right, arith}
use Rattle.std.proofs.lemmas.List.{get_or-set_same, get_or-set_other}
use Rattle.std.proofs.lemmas.Bool.{cases_order}
use Rattle.areas.specs.declared.area.Area.TheVariants.{Successors}
use Rattle.areas.specs.Layout.{Dims, size_of, Limits}
use Rattle.areas.proofs.Inside.{length-area}
use Rattle.model.specs.Observations.{Observations, rows, suffixes_used, edges_used, edge_of, seen, Full, LeadsToRow}
use Rattle.model.specs.Moves.{OtherThanRows}
use Rattle.model.specs.Models.{Model, view_model, observed_in, model_leading}
use Rattle.model.proofs.Paging.{model_sets_successors}
use Rattle.store.specs.Decoding.{model_of}
use Rattle.moves.specs.Changes.{leading_by}
use Rattle.moves.specs.Holding.{Holds, Turned}
use Rattle.moves.specs.Making.{Makes, MakesBy}
use Rattle.moves.specs.Observed.{observed_at}
use Rattle.moves.proofs.Standing.{makes_by_then}
use Rattle.moves.proofs.Holding.{turned_by, turned_holds}
use Rattle.moves.specs.declared.numbers.Row.{Row}
use Rattle.closing.specs.Missing.{Likeness}
use Rattle.closing.specs.Leading.{Led, FullTable, Stray}
use Rattle.closing.proofs.Held.{holds_cells_named, edge_of_row, full_differ}

-- There is a successor for each edge that there can be.
successors_long : (w : List ℕ) (d : Dims) → Limits d → length w ≡ d.length → length (model_of w d).successors ≡ 1 + d.most * d.keys
unfolding model_of size_of
successors_long w d l e = length-area w d Successors l e

-- Nothing was written.
pub led_none : (w : List ℕ) (d : Dims) → Led w w d
led_none w d = record { moves = record { model = refl; mark = refl; keys = refl; most = refl; long = refl }; fits = λ f. f }

-- What the memory observes stays.
pub led_observed : {w w' : List ℕ} {d : Dims} → Led w w' d → observed_at w' d ≡ observed_at w d
led_observed h = ap observed_in h.moves.model

-- One successor more.
pub led_more : {w w₁ w' : List ℕ} {d : Dims} (u v : ℕ) → Led w w₁ d → MakesBy w₁ w' d (λ m. leading_by m (set m.successors u v)) → Led w w' d × ((model_of w' d).successors ≡ set (model_of w₁ d).successors u v)
led_more {w = w} {w₁ = w₁} {w' = w'} {d = d} u v s t =
    let both = makes_by_then (λ m. leading_by m (set m.successors u v)) s t in
    let after : (model_of w' d).successors ≡ set (model_of w₁ d).successors u v = ap (λ (m : Model). m.successors) both.moves.model in
    (subst (λ (z : List ℕ). Makes w w' d (leading_by (model_of w d) z)) (sym after) both, after)

-- An edge that leads to a row that it is like, behind others that do.
pub leads_more : (n : ℕ) (b : Observations) (s : List ℕ) (u j : ℕ) → u < length s → j < rows b → ((e : ℕ) → e < suffixes_used b → seen n b u e ≡ seen n b (edge_of b j) e) → ((v : ℕ) → suc v < u → LeadsToRow n b s (suc v)) → (v : ℕ) → suc v < u + 1 → LeadsToRow n b (set s u j) (suc v)
leads_more n b s u j h g same before v l =
    ⊎_elim
    (λ (q : suc v ≡ u).
    let here : get_or (set s u j) (suc v) 0 ≡ j = ap (λ (z : ℕ). get_or (set s u j) z 0) q ∙ get_or-set_same s u j 0 h in
    record {
      row_in = omega (arith, here, g);
      same = λ e k. subst (λ (z : ℕ). seen n b z e ≡ seen n b (edge_of b (get_or (set s u j) (suc v) 0)) e) (sym q) (same e k ∙ ap (λ (z : ℕ). seen n b (edge_of b z) e) (sym here));
    })
    (⊎_elim
    (λ (q : suc v < u).
    let other : get_or (set s u j) (suc v) 0 ≡ get_or s (suc v) 0 = get_or-set_other s u (suc v) j 0 (omega (arith, q)) in
    let old = before v q in
    record {
      row_in = omega (arith, other, old.row_in);
      same = λ e k. old.same e k ∙ ap (λ (z : ℕ). seen n b (edge_of b z) e) (sym other);
    })
    (λ (q : u < suc v). absurd (omega (arith, l, q))))
    (cases_order (suc v) u)

-- An edge in use has its successor's place.
pub edge_fits : (w w₁ : List ℕ) (d : Dims) (u : ℕ) → Limits d → Holds w d → Led w w₁ d → u < suc (rows (observed_at w d) * d.keys) → u < length (model_of w₁ d).successors
unfolding model_of
edge_fits w w₁ d u l h s g =
    omega (arith, successors_long w₁ d l (s.moves.long ∙ h.long), mul-le-mul_right {m = rows (observed_at w d)} {n = d.most} d.keys h.valid.valid.formed.limits.rows_most)

-- A memory of which only successors were written still holds a valid learner.
pub led_turned : {w w' : List ℕ} {d : Dims} → FullTable w d → Led w w' d → Turned w w' d (view_model (model_of w d))
led_turned {w = w} {w' = w'} {d = d} t h =
    let m = model_of w d in
    let x = (model_of w' d).successors in
    let is : leading_by m x ≡ model_leading m x = λ i. record { keys = m.keys; most = m.most; page = m.page; successors = x; bisected = m.bisected; refutes = m.refutes; last = m.last; phase = t.phase i } in
    turned_by (subst (Makes w w' d) is h) (model_sets_successors m x t.holds.valid t.phase)

-- The learner whose successors were written still fills a full table.
pub led_full : {w w' : List ℕ} {d : Dims} → FullTable w d → Led w w' d → FullTable w' d
led_full {w = w} {w' = w'} {d = d} t h = record {
  holds = turned_holds t.holds (led_turned t h);
  phase = ap (λ (m : Model). m.phase) h.moves.model ∙ t.phase;
  full = subst (Full d.keys d.most) (sym (led_observed h)) t.full;
}

-- An edge is led to the row that it is like.
pub edge_led : (w w₁ w' : List ℕ) (d : Dims) (u : ℕ) (r : Row) → Limits d → FullTable w d → Led w w₁ d → u < suc (rows (observed_at w d) * d.keys) → ((v : ℕ) → suc v < u → LeadsToRow d.most (observed_at w d) (model_of w₁ d).successors (suc v)) → Likeness w₁ d u (Some r) → MakesBy w₁ w' d (λ m. leading_by m (set m.successors u r.0)) → Led w w' d × ((v : ℕ) → suc v < u + 1 → LeadsToRow d.most (observed_at w d) (model_of w' d).successors (suc v))
edge_led w w₁ w' d u r l t s g before likely written =
    let more = led_more u r.0 s written in
    let like = likely (holds_cells_named w₁ d l (led_full t s).holds) in
    let row : r.0 < rows (observed_at w d) = subst (λ (b : Observations). r.0 < rows b) (led_observed s) like.row_in in
    let same = subst (λ (b : Observations). (e : ℕ) → e < suffixes_used b → seen d.most b u e ≡ seen d.most b (edge_of b r.0) e) (led_observed s) like.alike in
    (more.0, λ v h. subst (λ (z : List ℕ). LeadsToRow d.most (observed_at w d) z (suc v)) (sym more.1) (leads_more d.most (observed_at w d) (model_of w₁ d).successors u r.0 (edge_fits w w₁ d u l t.holds s g) row same before v h))

-- An edge that is like no row differs from all.
pub edge_stray : (w w₁ : List ℕ) (d : Dims) (u : ℕ) → Limits d → FullTable w d → Led w w₁ d → u < edges_used d.keys (observed_at w d) → Likeness w₁ d u None → Stray w w₁ d u
edge_stray w w₁ d u l t s g likely =
    let t₁ = led_full t s in
    let g₁ : u < edges_used d.keys (observed_at w₁ d) = subst (λ (b : Observations). u < edges_used d.keys b) (sym (led_observed s)) g in
    let other : OtherThanRows d.most (observed_at w₁ d) u = λ j h.
    let found = likely (holds_cells_named w₁ d l t₁.holds) j h in
    full_differ w₁ d u (edge_of (observed_at w₁ d) j) found.0 t₁.full g₁ (edge_of_row w₁ d j t₁.holds h) found.1 in
    record { led = s; edge_in = g; other = subst (λ (b : Observations). OtherThanRows d.most b u) (led_observed s) other }
