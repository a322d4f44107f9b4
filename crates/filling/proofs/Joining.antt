-- Turns in which cells are filled, one after another.
use Rattle.std.proofs.Common.{ℕ, suc, ◌+◌, ◌*◌, ◌<◌, List, sym, refl, ◌∙◌, subst, arith, below_more}
use Rattle.areas.specs.Layout.{Dims}
use Rattle.model.specs.Observations.{suffixes_used, edges_used, seen}
use Rattle.moves.specs.Holding.{Turned}
use Rattle.moves.specs.Observed.{observed_at}
use Rattle.moves.proofs.Holding.{turned_none, turned_then, turned_holds}
use Rattle.filling.specs.Filled.{Filling, FillsCells, CellFilled, EdgeFilled}

pub fills_none : (w : List ℕ) (d : Dims) → Filling w d → FillsCells w w d
fills_none w d f = record { turned = turned_none f.holds; phase = f.phase; as_many_rows = refl; as_many_suffixes = refl; kept = λ v g h. h }

pub fills_then : {w w₁ w' : List ℕ} {d : Dims} → FillsCells w w₁ d → FillsCells w₁ w' d → FillsCells w w' d
fills_then {w₁ = w₁} {w' = w'} {d = d} s t = record {
  turned = turned_then s.turned (subst (Turned w₁ w' d) s.turned.is t.turned);
  phase = t.phase;
  as_many_rows = t.as_many_rows ∙ s.as_many_rows;
  as_many_suffixes = t.as_many_suffixes ∙ s.as_many_suffixes;
  kept = λ v g h. t.kept v g (s.kept v g h);
}

pub still_filling : {w w' : List ℕ} {d : Dims} → Filling w d → FillsCells w w' d → Filling w' d
still_filling f s = record { holds = turned_holds f.holds s.turned; phase = s.phase }

-- An edge in use still is.
pub edge_still : {w w' : List ℕ} {d : Dims} (u : ℕ) → FillsCells w w' d → u < edges_used d.keys (observed_at w d) → u < edges_used d.keys (observed_at w' d)
edge_still {d = d} u s h = subst (λ (z : ℕ). u < suc (z * d.keys)) (sym s.as_many_rows) h

-- An edge in use was so before.
pub edge_before : {w w' : List ℕ} {d : Dims} (u : ℕ) → FillsCells w w' d → u < edges_used d.keys (observed_at w' d) → u < edges_used d.keys (observed_at w d)
edge_before {d = d} u s h = subst (λ (z : ℕ). u < suc (z * d.keys)) s.as_many_rows h

-- One cell more of an edge.
pub cells_more : (w w₁ w' : List ℕ) (d : Dims) (u e : ℕ) → FillsCells w w₁ d → ((f : ℕ) → f < e → 0 < seen d.most (observed_at w₁ d) u f) → CellFilled w₁ w' d u e → FillsCells w w' d × ((f : ℕ) → f < e + 1 → 0 < seen d.most (observed_at w' d) u f)
cells_more w w₁ w' d u e s before here =
    (fills_then s here.fills, below_more (λ f. 0 < seen d.most (observed_at w' d) u f) e (λ f h. here.fills.kept u f (before f h)) here.known)

-- One edge more.
pub edges_more : (w w₁ w' : List ℕ) (d : Dims) (u : ℕ) → FillsCells w w₁ d → ((v e : ℕ) → v < u → e < suffixes_used (observed_at w d) → 0 < seen d.most (observed_at w₁ d) v e) → EdgeFilled w₁ w' d u → FillsCells w w' d × ((v e : ℕ) → v < u + 1 → e < suffixes_used (observed_at w d) → 0 < seen d.most (observed_at w' d) v e)
edges_more w w₁ w' d u s before here =
    (fills_then s here.fills, λ v e h l. below_more (λ z. 0 < seen d.most (observed_at w' d) z e) u (λ z g. here.fills.kept z e (before z e g l)) (here.known e (omega (arith, l, s.as_many_suffixes))) v h)
