-- What follows from the contracts of the calls, at this store.
use Rattle.promises.proofs.Shown.{tables_shown, never_stuck, goes_on}
use Rattle.promises.proofs.Taking.{takes_answers, takes_refutations}
use Rattle.store.specs.Reading.{state_of}
use Rattle.calls.proofs.runs.calls_go_on.Goals as goal

pub returns : goal.returns
returns c = record { shown = tables_shown state_of; stuck = never_stuck state_of; onward = goes_on state_of; answers = takes_answers state_of; refutations = takes_refutations state_of }
