use Rattle.std.proofs.Common.{rules}
use Rattle.std.proofs.lemmas.Iterator.{YieldsList-from_slice}
use Rattle.answers.proofs.Cells.{lead_folds}
use Rattle.answers.proofs.table.Table.lead.Goals as goal

pub returns : goal.returns
returns c = lead_folds _ c.args.self.now c.args.word.now _ _ _ (YieldsList-from_slice c.args.word.now cc) (λ a x v q k. search rules) c.try_fold.result _ c.try_fold.ensures.ran
