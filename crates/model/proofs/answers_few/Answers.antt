-- What answers_few ensures, from the lemmas.
use Rattle.model.proofs.answers_few.Goals as goal
use Rattle.model.proofs.Outcomes.{rows_short, asked_short, out_fits, answers_few, answers_fewer}

pub returns : goal.returns
returns c = record { rows = rows_short; asked = asked_short; fits = out_fits; few = answers_few; fewer = answers_fewer }
