-- What is read of a view is read of the memory that it is of.
use Rattle.std.proofs.Common.{◌≡◌, ℕ, List, subst}
use Rattle.areas.specs.declared.shape.Shape.{Shape}
use Rattle.areas.specs.Layout.{Dims}
use Rattle.areas.specs.Memories.{Reads}

pub viewed : {words held : List ℕ} {shape laid_for : Shape} (fact : List ℕ → Dims → Type 0) → words ≡ held → shape ≡ laid_for → Reads words shape fact → Reads held laid_for fact
viewed {words} {held} {shape} {laid_for} fact w s h = subst (λ (z : Shape). Reads held z fact) s (subst (λ (z : List ℕ). Reads z shape fact) w h)
