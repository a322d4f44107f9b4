-- What a write to one area leaves of a memory.
use Rattle.std.specs.Prelude.{◌≡◌, ℕ, List, length, ◌≢◌, slice_set}
use Rattle.areas.specs.declared.area.Area.{Area}
use Rattle.areas.specs.Words.{set_wide}
use Rattle.areas.specs.Layout.{Dims, area_of}

-- One area holds other words than before; all other areas and the length stay.
pub record Rewritten (w w' : List ℕ) (d : Dims) (a : Area) (after : List ℕ) : Type 0 where
  pub here : area_of w' d a ≡ after
  pub others : (b : Area) → (b ≢ a) → area_of w' d b ≡ area_of w d b
  pub long : length w' ≡ length w

-- Word i of an area is v now.
abbrev pub Saved : List ℕ → List ℕ → Dims → Area → ℕ → ℕ → Type 0
Saved w w' d a i v = Rewritten w w' d a (slice_set (area_of w d a) i v)

-- Word i of an area and the next hold the number v now.
abbrev pub SavedWide : List ℕ → List ℕ → Dims → Area → ℕ → ℕ → Type 0
SavedWide w w' d a i v = Rewritten w w' d a (set_wide (area_of w d a) i v)
