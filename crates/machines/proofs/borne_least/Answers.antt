-- What borne_least ensures, from the lemma.
use Rattle.machines.proofs.borne_least.Goals as goal
use Rattle.machines.proofs.Leads.{borne_least}

pub returns : goal.returns
returns g c = borne_least (g.S.Saying.says c.args.of.now)
