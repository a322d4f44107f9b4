use Rattle.std.proofs.Common.{ℕ, ◌<◌, length, get_or, None, subst, arith, below_more}
use Rattle.answers.specs.Logs.{told, ApartBy, Partner, no_answer}
use Rattle.answers.proofs.Alike.{told_read, length-told, two_answers}
use Rattle.answers.proofs.apart.told_apart.Goals as goal

pub loop-i-preserved : goal.loop-i-preserved
loop-i-preserved c = λ i j hi.
    let answers = told c.args.answers.now in
    let none = subst (λ a. Partner c.args.u.now c.args.v.now a answers None) (told_read c.args.answers.now c.loop-i.i _ c.loop-i-test.true c.index-answers-i.is) c.in_default.ensures in
    below_more (λ (z : ℕ). (j : ℕ) → j < length answers → ApartBy c.args.u.now c.args.v.now (get_or answers z no_answer) (get_or answers j no_answer) → ⊥) c.loop-i.i (λ z h y. c.loop-i.invariant z y h) none i hi j

pub returns : goal.returns
returns c = λ t.
    let e = two_answers t in
    c.loop-i.invariant e.0 e.1 (omega (arith, e.2, length-told c.args.answers.now, c.loop-i-test.false)) e.3 e.4
