-- All earlier edges lead to a row that they are like.
use Rattle.std.proofs.Common.{ℕ, suc, ◌<◌}
use Rattle.areas.specs.Memories.{Writes}
use Rattle.model.specs.Observations.{LeadsToRow}
use Rattle.store.specs.Decoding.{model_of}
use Rattle.moves.specs.Observed.{observed_at}
use Rattle.closing.specs.Leading.{Led, FullTable}
use Rattle.closing.proofs.leading.lead_edges.Given as goal

abbrev pub invariant-loop-u : goal.invariant-loop-u
invariant-loop-u l =
    Writes l.initial.memory l.memory (λ w w' d. FullTable w d
    → Led w w' d × ((v : ℕ) → suc v < l.u → LeadsToRow d.most (observed_at w d) (model_of w' d).successors (suc v)))
