-- What steps_come ensures, from the lemmas.
use Rattle.model.proofs.steps_come.Goals as goal
use Rattle.model.proofs.Turning.{turns, bisection_turns, step_comes}

pub returns : goal.returns
returns c = record { turns = turns; bisection = bisection_turns; comes = step_comes }
