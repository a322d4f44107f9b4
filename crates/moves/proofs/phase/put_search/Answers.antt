use Rattle.std.proofs.Common.{rules}
use Rattle.moves.specs.Phases.{set_search}
use Rattle.moves.proofs.phase.put_search.Goals as goal

pub returns : goal.returns
unfolding set_search
returns c = search rules
