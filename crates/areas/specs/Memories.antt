-- What is read of a memory, and what a write leaves of it.
use Rattle.std.specs.Prelude.{◌≡◌, ℕ, List, length}
use Rattle.areas.specs.declared.memory.Memory.{Memory}
use Rattle.areas.specs.declared.shape.Shape.{Shape}
use Rattle.areas.specs.Layout.{Dims}
use Rattle.areas.specs.Shapes.{dims}

-- This holds of a memory's words, as they are laid out.
abbrev pub Reads : List ℕ → Shape → (List ℕ → Dims → Type 0) → Type 0
Reads words shape fact = fact words (dims shape)

-- It is the same lent memory, as long as before and in the same shape, and this was done to its words.
pub record Writes (m n : Memory) (change : List ℕ → List ℕ → Dims → Type 0) : Type 0 where
  pub reference : n.words.ghost_name ≡ m.words.ghost_name
  pub shape : n.shape ≡ m.shape
  pub long : length n.words.now ≡ length m.words.now
  pub words : change m.words.now n.words.now (dims m.shape)
