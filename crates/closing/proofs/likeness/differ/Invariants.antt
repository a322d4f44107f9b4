-- Before all earlier suffixes the same is seen.
use Rattle.std.proofs.Common.{◌≡◌, ℕ, ◌<◌}
use Rattle.areas.specs.Shapes.{dims}
use Rattle.model.specs.Observations.{seen}
use Rattle.moves.specs.Observed.{observed_at}
use Rattle.closing.specs.Missing.{CellsNamed}
use Rattle.closing.proofs.likeness.differ.Given as goal

abbrev pub invariant-loop-suffix : goal.invariant-loop-suffix
invariant-loop-suffix g l =
    CellsNamed (g.M.Readable.held l.memory) (dims (g.M.Readable.laid_for l.memory))
    → (e : ℕ) → e < l.suffix → seen (dims (g.M.Readable.laid_for l.memory)).most (observed_at (g.M.Readable.held l.memory) (dims (g.M.Readable.laid_for l.memory))) l.left.0 e ≡ seen (dims (g.M.Readable.laid_for l.memory)).most (observed_at (g.M.Readable.held l.memory) (dims (g.M.Readable.laid_for l.memory))) l.right.0 e
