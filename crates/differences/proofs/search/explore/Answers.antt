use Rattle.std.proofs.Common.{◌∙◌, arith}
use Rattle.differences.proofs.Steps.{few_visits, found_none, found_some}
use Rattle.differences.proofs.search.explore.Goals as goal

pub loop-at-smaller : goal.loop-at-smaller
loop-at-smaller c =
    let d = c.loop-at.invariant in
    omega (arith, c.loop-at-test.true, c.loop-at.search.visits.ok.0, few_visits c.args.product c.loop-at.search c.loop-at.at 0 d.same d.sofar)

pub returns : goal.returns
returns c =
    let d = c.loop-at.invariant in
    found_none c.args.product c.loop-at.search c.loop-at.at 0 d.same (omega (arith, c.loop-at-test.false, c.loop-at.search.visits.ok.0)) d.sofar

pub returns-in-Some : goal.returns-in-Some
returns-in-Some c =
    let ends = rw c.in-Some.is at c.in_ok-key.ensures.sofar in
    found_some c.args.product c.expand.new.self _ _ _ (c.in_ok-key.ensures.product ∙ c.loop-at.invariant.same) ends c.in_ok-word_to.ensures
