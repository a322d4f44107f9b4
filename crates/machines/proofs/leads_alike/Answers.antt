-- What leads_alike ensures, from the lemma.
use Rattle.machines.proofs.leads_alike.Goals as goal
use Rattle.machines.proofs.Leads.{leads_alike}

pub returns : goal.returns
returns g c = leads_alike (g.S.Saying.says c.args.of.now)
