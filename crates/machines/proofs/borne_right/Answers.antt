-- What borne_right ensures, from the lemma.
use Rattle.machines.proofs.borne_right.Goals as goal
use Rattle.machines.proofs.Leads.{borne_right}

pub returns : goal.returns
returns g c = borne_right (g.S.Saying.says c.args.of.now)
