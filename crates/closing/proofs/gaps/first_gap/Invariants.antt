-- All cells before have an answer.
use Rattle.std.proofs.Common.{ℕ, ◌<◌}
use Rattle.areas.specs.Shapes.{dims}
use Rattle.model.specs.Observations.{seen}
use Rattle.moves.specs.Observed.{observed_at}
use Rattle.closing.specs.Missing.{KnownBefore}
use Rattle.closing.proofs.gaps.first_gap.Given as goal

abbrev pub invariant-loop-suffix : goal.invariant-loop-suffix
invariant-loop-suffix g l =
    KnownBefore (g.M.Readable.held l.memory) (dims (g.M.Readable.laid_for l.memory)) l.u × ((e : ℕ) → e < l.suffix → 0 < seen (dims (g.M.Readable.laid_for l.memory)).most (observed_at (g.M.Readable.held l.memory) (dims (g.M.Readable.laid_for l.memory))) l.u e)

abbrev pub invariant-loop-u : goal.invariant-loop-u
invariant-loop-u g l = KnownBefore (g.M.Readable.held l.memory) (dims (g.M.Readable.laid_for l.memory)) l.u
