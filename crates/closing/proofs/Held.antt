-- What a memory that holds a valid learner gives for reading its cells.
use Rattle.std.proofs.Common.{◌≡◌, ℕ, suc, ◌+◌, ◌*◌, ◌/◌, ◌%◌, ◌<◌, ◌≤◌, min, List, length, get_or, subst, ⊎_elim, mul-le-mul_right, div-add-mod', arith}
use Rattle.std.proofs.lemmas.Nat.{div_below, mod_below}
use Rattle.std.proofs.lemmas.List.{get_or_past}
use Rattle.std.proofs.lemmas.Bool.{cases_lt}
use Rattle.areas.specs.Layout.{Dims, Limits}
use Rattle.model.specs.Observations.{rows, edges_used, edge_of, Full, Differ}
use Rattle.store.specs.Decoding.{model_of}
use Rattle.moves.specs.Holding.{Holds}
use Rattle.moves.specs.Observed.{observed_at, page_at}
use Rattle.moves.proofs.Holding.{as_dims}
use Rattle.moves.proofs.Standing.{cell_stands}
use Rattle.closing.specs.Missing.{CellsNamed, DifferAt}

-- The cells are as many as edges and suffixes allow.
cells_long : (w : List ℕ) (d : Dims) → Holds w d → length (observed_at w d).cells ≡ suc (d.most * d.keys) * d.most
unfolding model_of
cells_long w d h = h.valid.valid.formed.limits.cells_long

-- No cell names an answer that isn't there.
pub holds_cells_named : (w : List ℕ) (d : Dims) → Limits d → Holds w d → CellsNamed w d
holds_cells_named w d l h u e =
    let n = d.most in
    let p = u * n + e in
    let cells = (observed_at w d).cells in
    ⊎_elim
    (λ (q : p < length cells).
    let row : p / n < suc (n * d.keys) = div_below p n (suc (n * d.keys)) l.some_states (omega (arith, cells_long w d h)) in
    subst (λ (z : ℕ). get_or cells z 0 ≤ length (page_at w d).entries) (div-add-mod' p n) (cell_stands w d (p / n) (p % n) h.valid row (mod_below p n l.some_states)))
    (λ (q : length cells ≤ p). omega (arith, get_or_past cells p 0 q))
    (cases_lt p (length cells))

-- A row's edge is in use.
pub edge_of_row : (w : List ℕ) (d : Dims) (j : ℕ) → Holds w d → j < rows (observed_at w d) → edge_of (observed_at w d) j < edges_used d.keys (observed_at w d)
unfolding model_of
edge_of_row w d j h g =
    omega (arith, (h.valid.valid.formed.spelt.row j g).earlier, mul-le-mul_right {m = j} {n = rows (observed_at w d)} d.keys (omega arith))

-- Edges of a full table that show different things differ.
pub full_differ : (w : List ℕ) (d : Dims) (u v e : ℕ) → Full d.keys d.most (observed_at w d) → u < edges_used d.keys (observed_at w d) → v < edges_used d.keys (observed_at w d) → DifferAt w d u v e → Differ d.most (observed_at w d) u v
full_differ w d u v e full hu hv h = record { suffix = e; suffix_in = h.suffix_in; left = full u e hu h.suffix_in; right = full v e hv h.suffix_in; other = h.other }

-- There are no more rows than there may be states.
pub rows_few : (w : List ℕ) (d : Dims) → Holds w d → rows (observed_at w d) ≤ d.most
rows_few w d h = as_dims w d (λ k n. rows (observed_at w d) ≤ n) h.valid.valid.formed.limits.rows_most

-- As many edges are in use as are counted.
pub edges_counted : (w : List ℕ) (d : Dims) (k r count most : ℕ) → Holds w d → k ≡ d.keys → r ≡ min count most → count ≡ rows (observed_at w d) → most ≡ d.most → suc (r * k) ≡ edges_used d.keys (observed_at w d)
edges_counted w d k r count most h e f g m =
    let all : r ≡ rows (observed_at w d) = omega (arith, rows_few w d h) in
    λ i. suc (all i * e i)
