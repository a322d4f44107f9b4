-- When a memory has a shape.
use Rattle.std.specs.Prelude.{◌≡◌, ℕ, List, Some, None, Option, slice_index_or}
use Rattle.areas.specs.declared.shape.Shape.{Shape}
use Rattle.areas.specs.Layout.{Limits}
use Rattle.areas.specs.Shapes.{dims}
use Rattle.store.specs.Decoding.{store_mark, mark_word, dims_of}
use Rattle.store.specs.Reading.{Stored}

-- A memory is marked, and the shape is what its words say, within the limits.
pub record Opened (w : List ℕ) (s : Shape) : Type 0 where
  pub marked : slice_index_or w mark_word 0 ≡ store_mark
  pub shaped : dims s ≡ dims_of w
  pub limits : Limits (dims_of w)

-- The shape of a memory; what has none is no store.
abbrev pub ShapeRead : List ℕ → Option Shape → Type 0
ShapeRead w None = Stored w → ⊥
ShapeRead w (Some s) = Opened w s
