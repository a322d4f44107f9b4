use Rattle.std.proofs.Common.{◌≡◌, ◌-◌, ◌*◌}
use Rattle.answers.specs.Values.{rows_of}
use Rattle.differences.specs.Searches.{ComeTo}
use Rattle.differences.proofs.search.explore.Given as goal

abbrev pub invariant-loop-at : goal.invariant-loop-at
invariant-loop-at l = record { same : l.search.product ≡ l.product; sofar : ComeTo l.search l.at 0 }

abbrev pub decreases-loop-at : goal.decreases-loop-at
decreases-loop-at l = rows_of l.product.one.now * rows_of l.product.other.now - l.at
