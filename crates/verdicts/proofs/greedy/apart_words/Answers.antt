use Rattle.std.proofs.Common.{◌≡◌, length, vec_items, subst, arith}
use Rattle.answers.specs.Logs.{told}
use Rattle.answers.proofs.Alike.{length-told}
use Rattle.verdicts.specs.Greedy.{FirstAlike}
use Rattle.verdicts.proofs.Chosen.{choosing_next, Choosing, chosen_greedy}
use Rattle.verdicts.proofs.greedy.apart_words.Goals as goal

pub loop-i-preserved : goal.loop-i-preserved
loop-i-preserved c =
    choosing_next (told c.args.answers.now) c.loop-i.i (vec_items c.loop-i.chosen) c.as_slice.result.now _ c.first_alike.result c.loop-i.invariant
    (omega (arith, length-told c.args.answers.now, c.loop-i-test.true)) c.as_slice.ensures.value (subst (λ z. FirstAlike (told z) c.as_slice.result.now c.loop-i.i c.first_alike.result) c.in_ok-index.ensures c.first_alike.ensures)
    (λ e. grind arith) (λ q e. grind arith)

pub returns : goal.returns
returns c =
    let answers = told c.args.answers.now in
    let all : c.loop-i.i ≡ length answers = omega (arith, length-told c.args.answers.now, c.loop-i-test.false, c.loop-i.auto.i-end) in
    chosen_greedy answers (vec_items c.loop-i.chosen) (subst (λ n. Choosing answers n (vec_items c.loop-i.chosen)) all c.loop-i.invariant)
