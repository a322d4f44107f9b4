use Rattle.std.proofs.Common.{vec_items, Decides, subst}
use Rattle.std.proofs.lemmas.Bool.Decides.{not_from_Decides}
use Rattle.answers.specs.Logs.{told}
use Rattle.answers.specs.Values.{keys_of, cells_of}
use Rattle.verdicts.specs.Choices.{LeadsHere}
use Rattle.verdicts.proofs.Followed.{candidate_skips, candidate_takes}
use Rattle.verdicts.proofs.order.Index.consider.Goals as goal

pub returns-then-not-leads_here : goal.returns-then-not-leads_here
returns-then-not-leads_here c =
    let t = c.args.table.now in
    let tested = subst (λ z. Decides c.leads_here.result (LeadsHere (keys_of t) (cells_of t) c.args.row.0 z)) c.word_in.ensures c.leads_here.ensures in
    candidate_skips (told c.args.self.now.answers.now) (vec_items c.args.self.now.order) (keys_of t) (cells_of t) c.args.row.0 c.args.place c.args.best c.requires.sofar (not_from_Decides _ tested c.if-not-leads_here.true)

pub returns : goal.returns
returns c =
    let t = c.args.table.now in
    let tested = subst (λ z. Decides c.leads_here.result (LeadsHere (keys_of t) (cells_of t) c.args.row.0 z)) c.word_in.ensures c.leads_here.ensures in
    candidate_takes (told c.args.self.now.answers.now) (vec_items c.args.self.now.order) (keys_of t) (cells_of t) c.args.row.0 c.args.place c.args.best c.followers-followers.result c.better_of.result c.requires.sofar (tested.0 c.if-not-leads_here.false) c.followers-followers.ensures c.better_of.ensures
