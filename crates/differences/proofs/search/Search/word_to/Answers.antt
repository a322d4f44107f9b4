use Rattle.std.proofs.Common.{◌<◌, length, vec_items, ap, sym, ◌∙◌, arith}
use Rattle.differences.specs.declared.search.Visit.{Visit}
use Rattle.differences.proofs.Steps.{visit_read}
use Rattle.differences.proofs.Visits.{read_back, read_all}
use Rattle.differences.proofs.search.Search.word_to.Goals as goal

pub loop-step-preserved : goal.loop-step-preserved
loop-step-preserved c =
    let visits = vec_items c.args.self.now.visits in
    let p = c.loop-step.place in
    let rest = vec_items c.loop-step.word in
    let there : p < length visits = omega (arith, c.loop-step.invariant.there, c.args.self.now.visits.ok.0) in
    let is = ap (λ (v : Visit). v.step) (sym (visit_read visits p _ there c.index.ensures)) ∙ c.in-Some.is in
    record {
      there = omega (arith, there, (read_back p c.in-Some.step rest is there c.requires.linked.1).0, c.args.self.now.visits.ok.0);
      read = λ ws linked. rw c.in_ok-push-2.ensures.items ((read_back p c.in-Some.step rest is there linked).1 ∙ c.loop-step.invariant.read ws linked);
    }

pub returns : goal.returns
returns c = λ ws linked.
    let visits = vec_items c.args.self.now.visits in
    let p = c.loop-step.place in
    let there : p < length visits = omega (arith, c.loop-step.invariant.there, c.args.self.now.visits.ok.0) in
    let is = ap (λ (v : Visit). v.step) (sym (visit_read visits p _ there c.index.ensures)) ∙ c.in_default.is in
    c.reverse.ensures.items ∙ read_all p (vec_items c.loop-step.word) _ is there linked (c.loop-step.invariant.read ws linked)
