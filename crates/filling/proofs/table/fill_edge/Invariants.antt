-- The cells of all earlier suffixes are known.
use Rattle.std.proofs.Common.{ℕ, ◌<◌}
use Rattle.areas.specs.Memories.{Writes}
use Rattle.model.specs.Observations.{edges_used, seen}
use Rattle.moves.specs.Observed.{observed_at}
use Rattle.filling.specs.Filled.{Filling, FillsCells}
use Rattle.filling.proofs.table.fill_edge.Given as goal

abbrev pub invariant-loop-suffix : goal.invariant-loop-suffix
invariant-loop-suffix l =
    Writes l.initial.memory l.memory (λ w w' d. Filling w d → l.edge.0 < edges_used d.keys (observed_at w d)
    → FillsCells w w' d × ((e : ℕ) → e < l.suffix → 0 < seen d.most (observed_at w' d) l.edge.0 e))
