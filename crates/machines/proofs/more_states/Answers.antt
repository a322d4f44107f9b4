-- What more_states ensures, from the lemma.
use Rattle.machines.proofs.more_states.Goals as goal
use Rattle.machines.proofs.Padding.{more_states}

pub returns : goal.returns
returns c = more_states
