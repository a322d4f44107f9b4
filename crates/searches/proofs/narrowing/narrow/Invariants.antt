-- The learner could be in the search so far, and its ends come nearer.
use Rattle.std.proofs.Common.{◌≡◌, ◌-◌}
use Rattle.areas.specs.Shapes.{dims}
use Rattle.model.specs.Learners.{bisecting}
use Rattle.store.specs.Decoding.{model_of}
use Rattle.moves.specs.Holding.{Holds}
use Rattle.moves.specs.Phases.{search_value}
use Rattle.searches.specs.Searching.{Searching}
use Rattle.searches.proofs.narrowing.narrow.Given as goal

abbrev pub invariant-loop-told : goal.invariant-loop-told
invariant-loop-told g l =
    Holds (g.M.Readable.held l.memory) (dims (g.M.Readable.laid_for l.memory)) → (model_of (g.M.Readable.held l.memory) (dims (g.M.Readable.laid_for l.memory))).phase ≡ bisecting (search_value l.initial.search)
    → Searching (g.M.Readable.held l.memory) (dims (g.M.Readable.laid_for l.memory)) l.search

abbrev pub decreases-loop-told : goal.decreases-loop-told
decreases-loop-told g l = l.search.high - l.search.low
