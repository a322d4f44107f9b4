use Rattle.std.proofs.Common.{◌++◌, vec_items, refl}
use Rattle.answers.specs.Logs.{told}
use Rattle.verdicts.proofs.Kept.{indexed_of}
use Rattle.verdicts.proofs.Quiet.{other_none, other_found}
use Rattle.verdicts.proofs.order.Index.other_than.Goals as goal

pub returns-in_err-j : goal.returns-in_err-j
returns-in_err-j c =
    let answers = told c.args.self.now.answers.now in
    let order = vec_items c.args.self.now.order in
    rw c.from_residual.ensures (other_none answers order (c.args.v.now ++ c.args.x.now) _ (indexed_of answers order c.args.self.now.indexed) c.in_err-j.ensures)

pub returns : goal.returns
returns c =
    let answers = told c.args.self.now.answers.now in
    let order = vec_items c.args.self.now.order in
    other_found answers order (c.args.v.now ++ c.args.x.now) c.args.i c.in_ok-j.j (indexed_of answers order c.args.self.now.indexed) c.in_ok-j.ensures c.shown_of.result c.shown_of-2.result c.then_some.result c.shown_of.ensures c.shown_of-2.ensures _ refl c.then_some.ensures
