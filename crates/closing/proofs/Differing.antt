-- Edges of which a difference was found.
use Rattle.std.proofs.Common.{◌≡◌, ℕ, true, List, is_some, Some, None, Option, sym, true≢false}
use Rattle.areas.specs.Layout.{Dims}
use Rattle.closing.specs.Missing.{CellsNamed, DifferAt, Difference}

-- A difference that was found is one.
pub some_differs : (w : List ℕ) (d : Dims) (u v : ℕ) (r : Option ℕ) → is_some r ≡ true → Difference w d u v r → CellsNamed w d → (e : ℕ) × DifferAt w d u v e
some_differs w d u v None h found named = absurd (true≢false (sym h))
some_differs w d u v (Some e) h found named = (e, found named)
