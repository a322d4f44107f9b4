-- What follows from the contracts of the calls, at this store.
use Rattle.promises.proofs.Replays.{holds_all}
use Rattle.promises.proofs.Refutations.{few_refutations, few_words, finer_words}
use Rattle.store.specs.Reading.{state_of}
use Rattle.store.proofs.Doors.{stores_stand}
use Rattle.calls.proofs.runs.calls_add_up.Goals as goal

pub returns : goal.returns
returns c = record { holds = holds_all state_of; refutations = few_refutations state_of; words = few_words state_of; finer = finer_words state_of stores_stand }
