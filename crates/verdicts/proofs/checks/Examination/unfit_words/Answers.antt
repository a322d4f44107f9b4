use Rattle.std.proofs.Common.{rules, subst}
use Rattle.std.proofs.lemmas.Result.{IfOk-weaker}
use Rattle.answers.specs.Logs.{told}
use Rattle.answers.specs.Made.{lists}
use Rattle.answers.specs.Values.{keys_of, cells_of}
use Rattle.verdicts.specs.Faults.{RowFit}
use Rattle.verdicts.specs.Listings.{Lists, row_at}
use Rattle.verdicts.proofs.Listed.{lists_of, check_by}
use Rattle.verdicts.proofs.checks.Examination.unfit_words.Goals as goal

pub returns : goal.returns
returns c =
    let t = c.args.self.now.table.now in
    let good = RowFit (keys_of t) (cells_of t) (lists c.args.self.now.words.now) (told c.args.self.now.index.answers.now) in
    IfOk-weaker c.of.result _ _ (λ l k. subst (λ n. Lists row_at good n c.args.self.now.most l) c.rows.ensures
    (lists_of row_at good c.args.self.now.most c.rows.result l (λ i o h r. search (rules, check_by)) k)) c.of.ensures
