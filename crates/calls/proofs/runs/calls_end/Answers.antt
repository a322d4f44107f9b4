-- What follows from the contracts of the calls, at this store.
use Rattle.promises.proofs.Endings.{all_ends}
use Rattle.store.specs.Reading.{state_of}
use Rattle.calls.proofs.runs.calls_end.Goals as goal

pub returns : goal.returns
returns c = all_ends state_of
