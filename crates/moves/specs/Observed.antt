-- The observations and the page of a memory that is laid out so, and what is read of a cell.
use Rattle.std.specs.Prelude.{◌≡◌, ℕ, suc, ◌≤◌, List, length, Some, None, Option}
use Rattle.areas.specs.Layout.{Dims}
use Rattle.model.specs.Observations.{Observations, cell_at, seen}
use Rattle.model.specs.Pages.{Page}
use Rattle.model.specs.Models.{observed_in}
use Rattle.store.specs.Decoding.{model_of}

-- The observations that a memory holds.
abbrev pub observed_at : List ℕ → Dims → Observations
observed_at w d = observed_in (model_of w d)

-- The page that a memory holds.
abbrev pub page_at : List ℕ → Dims → Page
page_at w d = (model_of w d).page

-- What is seen in a cell: 0 if nothing was told, else 1 and what was shown.
abbrev pub seen_value : Option ℕ → ℕ
seen_value None = 0
seen_value (Some x) = suc x

-- What is seen in the cell of edge u and suffix e, where the cell names no answer that isn't there.
abbrev pub SeenIn : List ℕ → Dims → ℕ → ℕ → Option ℕ → Type 0
SeenIn w d u e r =
    cell_at d.most (observed_at w d) u e ≤ length (page_at w d).entries → seen_value r ≡ seen d.most (observed_at w d) u e
