use Rattle.std.proofs.Common.{vec_items}
use Rattle.answers.specs.Logs.{told}
use Rattle.answers.specs.Values.{keys_of, cells_of}
use Rattle.verdicts.specs.Choices.{CandidateFor}
use Rattle.verdicts.proofs.order.Index.best_word.Given as goal

abbrev pub invariant-loop-place : goal.invariant-loop-place
invariant-loop-place l = CandidateFor (keys_of l.table) (cells_of l.table) (told l.self.answers.now) (vec_items l.self.order) l.row.0 l.place l.best
