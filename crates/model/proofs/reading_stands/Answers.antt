-- What reading_stands ensures, from the lemmas.
use Rattle.model.proofs.reading_stands.Goals as goal
use Rattle.model.proofs.Paging.{model_stands, readings_stand}

pub returns : goal.returns
returns c = record { stands = model_stands; reads = readings_stand }
