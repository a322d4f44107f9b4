use Rattle.std.proofs.Common.{ℕ, List, ap}
use Rattle.std.specs.List.{list_any}
use Rattle.differences.specs.Pairs.{same_rows}
use Rattle.differences.proofs.Steps.{begun}
use Rattle.differences.proofs.search.Search.begin.Goals as goal

pub returns-clause-search : goal.returns-clause-search
returns-clause-search c =
    begun c.args.product _ c.visit.new.self c.visit.ensures.product c.requires c.new.ensures.items (λ x. ap (λ (z : List (ℕ × ℕ)). list_any (same_rows x) z) c.new-2.ensures.empty)
    c.in_ok-visit.ensures.visit
