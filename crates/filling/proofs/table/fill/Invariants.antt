-- All cells of earlier edges are known.
use Rattle.std.proofs.Common.{ℕ, ◌<◌}
use Rattle.areas.specs.Memories.{Writes}
use Rattle.model.specs.Observations.{suffixes_used, seen}
use Rattle.moves.specs.Observed.{observed_at}
use Rattle.filling.specs.Filled.{Filling, FillsCells}
use Rattle.filling.proofs.table.fill.Given as goal

abbrev pub invariant-loop-u : goal.invariant-loop-u
invariant-loop-u l =
    Writes l.initial.memory l.memory (λ w w' d. Filling w d
    → FillsCells w w' d × ((v e : ℕ) → v < l.u → e < suffixes_used (observed_at w d) → 0 < seen d.most (observed_at w' d) v e))
