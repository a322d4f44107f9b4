-- What apart_leads_apart ensures, from the lemma.
use Rattle.machines.proofs.apart_leads_apart.Goals as goal
use Rattle.machines.proofs.Apart.{apart_leads_apart}

pub returns : goal.returns
returns g c = apart_leads_apart (g.S.Saying.says c.args.of.now)
