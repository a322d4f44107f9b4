use Rattle.std.proofs.Common.{rules, length, sym, subst}
use Rattle.std.proofs.lemmas.Result.{IfOk-weaker}
use Rattle.answers.specs.Logs.{told}
use Rattle.answers.specs.Values.{keys_of, cells_of}
use Rattle.answers.proofs.Alike.{length-told}
use Rattle.verdicts.specs.Faults.{Agreed}
use Rattle.verdicts.specs.Listings.{Lists, itself}
use Rattle.verdicts.proofs.Listed.{lists_of, check_by}
use Rattle.verdicts.proofs.checks.Examination.wrong_answers.Goals as goal

pub returns : goal.returns
returns c =
    let good = Agreed (keys_of c.args.self.now.table.now) (cells_of c.args.self.now.table.now) (told c.args.self.now.index.answers.now) in
    IfOk-weaker c.of.result _ _ (λ l k. subst (λ n. Lists itself good n c.args.self.now.most l) (sym (length-told c.args.self.now.index.answers.now))
    (lists_of itself good c.args.self.now.most (length c.args.self.now.index.answers.now) l (λ i o h r. search (rules, check_by)) k)) c.of.ensures
