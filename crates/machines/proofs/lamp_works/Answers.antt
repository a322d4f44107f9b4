-- What lamp_works ensures, from the lemma.
use Rattle.machines.proofs.lamp_works.Goals as goal
use Rattle.machines.proofs.Lamps.{lamp_works}

pub returns : goal.returns
returns c = lamp_works
