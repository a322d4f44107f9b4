-- What apart_words_few ensures, from the lemma.
use Rattle.machines.proofs.apart_words_few.Goals as goal
use Rattle.machines.proofs.Apart.{apart_words_few}

pub returns : goal.returns
returns g c = apart_words_few (g.S.Saying.says c.args.of.now)
