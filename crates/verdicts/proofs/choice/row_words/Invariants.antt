use Rattle.std.proofs.Common.{vec_items}
use Rattle.answers.specs.Logs.{told}
use Rattle.answers.specs.Values.{keys_of, cells_of}
use Rattle.verdicts.specs.Choices.{WordsFor}
use Rattle.verdicts.proofs.choice.row_words.Given as goal

abbrev pub invariant-loop-row : goal.invariant-loop-row
invariant-loop-row l = WordsFor (keys_of l.table) (cells_of l.table) (told l.answers) l.row (vec_items l.chosen)
