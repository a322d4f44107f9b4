-- What valid_stands ensures, from the lemmas.
use Rattle.model.proofs.valid_stands.Goals as goal
use Rattle.model.proofs.Outcomes.{valid_stands, larger_says, broken_says}

pub returns : goal.returns
returns c = record { stands = valid_stands; larger = larger_says; broken = broken_says }
