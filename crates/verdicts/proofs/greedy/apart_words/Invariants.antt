use Rattle.std.proofs.Common.{vec_items}
use Rattle.answers.specs.Logs.{told}
use Rattle.verdicts.proofs.Chosen.{Choosing}
use Rattle.verdicts.proofs.greedy.apart_words.Given as goal

abbrev pub invariant-loop-i : goal.invariant-loop-i
invariant-loop-i l = Choosing (told l.answers) l.i (vec_items l.chosen)
