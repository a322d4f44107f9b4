-- The edge differs from all earlier rows.
use Rattle.std.proofs.Common.{ℕ, ◌<◌}
use Rattle.areas.specs.Shapes.{dims}
use Rattle.model.specs.Observations.{edge_of}
use Rattle.moves.specs.Observed.{observed_at}
use Rattle.closing.specs.Missing.{CellsNamed, DifferAt}
use Rattle.closing.proofs.likeness.row_like.Given as goal

abbrev pub invariant-loop-j : goal.invariant-loop-j
invariant-loop-j g l =
    CellsNamed (g.M.Readable.held l.memory) (dims (g.M.Readable.laid_for l.memory))
    → (j : ℕ) → j < l.j → (e : ℕ) × DifferAt (g.M.Readable.held l.memory) (dims (g.M.Readable.laid_for l.memory)) l.edge.0 (edge_of (observed_at (g.M.Readable.held l.memory) (dims (g.M.Readable.laid_for l.memory))) j) e
