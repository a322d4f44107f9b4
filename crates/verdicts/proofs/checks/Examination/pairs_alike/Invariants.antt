use Rattle.std.proofs.Common.{◌*◌}
use Rattle.answers.specs.Logs.{told}
use Rattle.answers.specs.Made.{lists}
use Rattle.answers.specs.Values.{rows_of}
use Rattle.verdicts.specs.Faults.{PairApart}
use Rattle.verdicts.specs.Listings.{Lists, pair_at}
use Rattle.verdicts.proofs.checks.Examination.pairs_alike.Given as goal

abbrev pub invariant-loop-one : goal.invariant-loop-one
invariant-loop-one l = Lists (pair_at (rows_of l.self.table.now)) (PairApart (rows_of l.self.table.now) (lists l.self.words.now) (told l.self.index.answers.now)) (l.one-counter * rows_of l.self.table.now) l.self.most l.found
