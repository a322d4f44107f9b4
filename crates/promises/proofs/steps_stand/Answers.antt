-- What steps_stand ensures, from the lemmas.
use Rattle.promises.proofs.steps_stand.Goals as goal
use Rattle.promises.proofs.Shown.{tables_shown, never_stuck, goes_on}

pub returns : goal.returns
returns c = record { shown = tables_shown; stuck = never_stuck; onward = goes_on }
