-- All earlier answers are agreed with.
use Rattle.std.proofs.Common.{ℕ, ◌<◌}
use Rattle.areas.specs.Shapes.{dims}
use Rattle.model.specs.Observations.{Closed}
use Rattle.store.specs.Decoding.{model_of}
use Rattle.moves.specs.Holding.{Holds}
use Rattle.moves.specs.Observed.{observed_at}
use Rattle.walks.specs.Agreeing.{RightAt}
use Rattle.walks.proofs.ends.first_wrong.Given as goal

abbrev pub invariant-loop-c : goal.invariant-loop-c
invariant-loop-c g l =
    Holds (g.M.Readable.held l.memory) (dims (g.M.Readable.laid_for l.memory)) → Closed (dims (g.M.Readable.laid_for l.memory)).keys (dims (g.M.Readable.laid_for l.memory)).most (observed_at (g.M.Readable.held l.memory) (dims (g.M.Readable.laid_for l.memory))) (model_of (g.M.Readable.held l.memory) (dims (g.M.Readable.laid_for l.memory))).successors
    → (c : ℕ) → c < l.c → RightAt (g.M.Readable.held l.memory) (dims (g.M.Readable.laid_for l.memory)) c
