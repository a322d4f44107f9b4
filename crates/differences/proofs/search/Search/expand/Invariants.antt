use Rattle.std.proofs.Common.{◌≡◌}
use Rattle.differences.specs.Searches.{GoingOn}
use Rattle.differences.proofs.search.Search.expand.Given as goal

abbrev pub invariant-loop-key : goal.invariant-loop-key
invariant-loop-key l = record { same : l.self.product ≡ l.initial.self.product; going : GoingOn l.self l.at l.key }
