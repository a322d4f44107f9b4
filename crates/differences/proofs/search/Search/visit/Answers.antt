use Rattle.std.proofs.Common.{sym, ◌∙◌, refl}
use Rattle.std.proofs.lemmas.Bool.{both_ways, not-true, not-false}
use Rattle.differences.proofs.search.Search.visit.Goals as goal

pub returns-in_ok-push-clause-visit : goal.returns-in_ok-push-clause-visit
returns-in_ok-push-clause-visit c =
    let clear = rw c.rows.ensures at (not-true _ (sym c.in_ok-insert.ensures.added ∙ c.if-branch.true)) in
    record {
      among = rw c.rows.ensures at c.in_ok-insert.ensures.updates.0;
      known = λ e. absurd (both_ways _ clear e);
      new = λ _. c.in_ok-push.ensures.items;
    }

pub returns-else-branch-clause-visit : goal.returns-else-branch-clause-visit
returns-else-branch-clause-visit c =
    let known = rw c.rows.ensures at (not-false _ (sym c.in_ok-insert.ensures.added ∙ c.if-branch.false)) in
    record { among = rw c.rows.ensures at c.in_ok-insert.ensures.updates.0; known = λ _. refl; new = λ e. absurd (both_ways _ e known) }
