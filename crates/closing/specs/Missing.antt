-- Cells without an answer, and edges that are like a row or like none.
use Rattle.std.specs.Prelude.{◌≡◌, ℕ, ◌<◌, ◌≤◌, List, length, Some, None, Option}
use Rattle.areas.specs.Layout.{Dims}
use Rattle.model.specs.Observations.{rows, suffixes_used, edges_used, edge_of, cell_at, seen, Full}
use Rattle.moves.specs.Observed.{observed_at, page_at}
use Rattle.moves.specs.declared.numbers.Row.{Row}
use Rattle.closing.specs.declared.gaps.Gap.{Gap}

-- All cells of the edges before one have an answer.
abbrev pub KnownBefore : List ℕ → Dims → ℕ → Type 0
KnownBefore w d u = (v e : ℕ) → v < u → e < suffixes_used (observed_at w d) → 0 < seen d.most (observed_at w d) v e

-- A cell is in use and has no answer, and is the first such cell.
pub record Unknown (w : List ℕ) (d : Dims) (u e : ℕ) : Type 0 where
  pub edge_in : u < edges_used d.keys (observed_at w d)
  pub suffix_in : e < suffixes_used (observed_at w d)
  pub unknown : cell_at d.most (observed_at w d) u e ≡ 0
  pub before : KnownBefore w d u
  pub earlier : (f : ℕ) → f < e → 0 < seen d.most (observed_at w d) u f

-- The first cell in use without an answer; none where the table is full.
abbrev pub GapFound : List ℕ → Dims → Option Gap → Type 0
GapFound w d None = rows (observed_at w d) ≤ d.most → Full d.keys d.most (observed_at w d)
GapFound w d (Some g) = rows (observed_at w d) ≤ d.most → Unknown w d g.edge.0 g.suffix

-- No cell names an answer that isn't there.
abbrev pub CellsNamed : List ℕ → Dims → Type 0
CellsNamed w d = (u e : ℕ) → cell_at d.most (observed_at w d) u e ≤ length (page_at w d).entries

-- Two edges show the same before every suffix.
abbrev pub Alike : List ℕ → Dims → ℕ → ℕ → Type 0
Alike w d u v = (e : ℕ) → e < suffixes_used (observed_at w d) → seen d.most (observed_at w d) u e ≡ seen d.most (observed_at w d) v e

-- Two edges show different things before a suffix, and the same before each earlier one.
pub record DifferAt (w : List ℕ) (d : Dims) (u v e : ℕ) : Type 0 where
  pub suffix_in : e < suffixes_used (observed_at w d)
  pub other : seen d.most (observed_at w d) u e ≡ seen d.most (observed_at w d) v e → ⊥
  pub earlier : (f : ℕ) → f < e → seen d.most (observed_at w d) u f ≡ seen d.most (observed_at w d) v f

-- The first suffix before which two edges show different things; none where they are alike.
abbrev pub Difference : List ℕ → Dims → ℕ → ℕ → Option ℕ → Type 0
Difference w d u v None = CellsNamed w d → Alike w d u v
Difference w d u v (Some e) = CellsNamed w d → DifferAt w d u v e

-- A row that an edge is like, and the first such row.
pub record Like (w : List ℕ) (d : Dims) (u j : ℕ) : Type 0 where
  pub row_in : j < rows (observed_at w d)
  pub alike : Alike w d u (edge_of (observed_at w d) j)
  pub earlier : (i : ℕ) → i < j → (e : ℕ) × DifferAt w d u (edge_of (observed_at w d) i) e

-- The first row that an edge is like; none where the edge differs from all rows.
abbrev pub Likeness : List ℕ → Dims → ℕ → Option Row → Type 0
Likeness w d u None = CellsNamed w d → (j : ℕ) → j < rows (observed_at w d) → (e : ℕ) × DifferAt w d u (edge_of (observed_at w d) j) e
Likeness w d u (Some r) = CellsNamed w d → Like w d u r.0
