-- What runs_stand ensures, from the lemmas.
use Rattle.promises.proofs.runs_stand.Goals as goal
use Rattle.promises.proofs.Replays.{holds_all}
use Rattle.promises.proofs.Refutations.{few_refutations, few_words, finer_words}

pub returns : goal.returns
returns c = record { holds = holds_all; refutations = few_refutations; words = few_words; finer = finer_words }
