-- What rounds_end ensures, from the lemmas.
use Rattle.promises.proofs.rounds_end.Goals as goal
use Rattle.promises.proofs.Taking.{takes_answers, takes_refutations}
use Rattle.promises.proofs.Endings.{all_ends}

pub returns : goal.returns
returns c = record { answers = takes_answers; refutations = takes_refutations; end = all_ends }
