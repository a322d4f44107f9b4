-- Turns in which only cells are filled.
use Rattle.std.specs.Prelude.{◌≡◌, ℕ, ◌<◌, Bool, true, false, List}
use Rattle.areas.specs.Layout.{Dims}
use Rattle.model.specs.Observations.{rows, suffixes_used, seen, Full}
use Rattle.model.specs.Learners.{filling}
use Rattle.model.specs.Models.{view_model}
use Rattle.store.specs.Decoding.{model_of}
use Rattle.moves.specs.Holding.{Holds, Turned, Settles}
use Rattle.moves.specs.Observed.{observed_at}

-- A memory holds a learner that fills its table.
pub record Filling (w : List ℕ) (d : Dims) : Type 0 where
  pub holds : Holds w d
  pub phase : (model_of w d).phase ≡ filling

-- Only cells were filled: there are as many rows and suffixes, and what was known still is.
pub record FillsCells (w w' : List ℕ) (d : Dims) : Type 0 where
  pub turned : Turned w w' d (view_model (model_of w d))
  pub phase : (model_of w' d).phase ≡ filling
  pub as_many_rows : rows (observed_at w' d) ≡ rows (observed_at w d)
  pub as_many_suffixes : suffixes_used (observed_at w' d) ≡ suffixes_used (observed_at w d)
  pub kept : (v f : ℕ) → 0 < seen d.most (observed_at w d) v f → 0 < seen d.most (observed_at w' d) v f

-- The cell of an edge and a suffix is known now.
pub record CellFilled (w w' : List ℕ) (d : Dims) (u e : ℕ) : Type 0 where
  pub fills : FillsCells w w' d
  pub known : 0 < seen d.most (observed_at w' d) u e

-- All cells of an edge are known now.
pub record EdgeFilled (w w' : List ℕ) (d : Dims) (u : ℕ) : Type 0 where
  pub fills : FillsCells w w' d
  pub known : (e : ℕ) → e < suffixes_used (observed_at w d) → 0 < seen d.most (observed_at w' d) u e

-- All cells in use are known now.
pub record AllFilled (w w' : List ℕ) (d : Dims) : Type 0 where
  pub fills : FillsCells w w' d
  pub full : Full d.keys d.most (observed_at w' d)

-- A cell that was tried is known, or its word is asked about.
abbrev pub CellTried : List ℕ → List ℕ → Dims → ℕ → ℕ → Bool → Type 0
CellTried w w' d u e true = CellFilled w w' d u e
CellTried w w' d u e false = Settles w w' d

-- The cells of an edge are known, or the word of one is asked about.
abbrev pub EdgeTried : List ℕ → List ℕ → Dims → ℕ → Bool → Type 0
EdgeTried w w' d u true = EdgeFilled w w' d u
EdgeTried w w' d u false = Settles w w' d

-- All cells in use are known, or the word of one is asked about.
abbrev pub TableTried : List ℕ → List ℕ → Dims → Bool → Type 0
TableTried w w' d true = AllFilled w w' d
TableTried w w' d false = Settles w w' d
