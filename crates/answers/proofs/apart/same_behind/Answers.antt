use Rattle.std.proofs.Common.{Some, None}
use Rattle.std.proofs.lemmas.Slice.Eq.{slice_eq-Decides, strip_prefix_is}
use Rattle.answers.proofs.Alike.{go_on_decides, never_decides}
use Rattle.answers.proofs.apart.same_behind.Goals as goal
use Rattle.std.proofs.lemmas.Bool.Decides.{Decides-eqb}

pub returns-in_default : goal.returns-in_default
returns-in_default c = never_decides (λ g. strip_prefix_is Decides-eqb c.args.a.now c.args.u.now None c.in_default.ensures.cases _ g.left)

pub returns-in_default-strip_prefix : goal.returns-in_default-strip_prefix
returns-in_default-strip_prefix c = never_decides (λ g. strip_prefix_is Decides-eqb c.args.b.now c.args.v.now None c.in_default-strip_prefix.ensures.cases _ g.right)

pub returns : goal.returns
returns c =
    go_on_decides c.args.u.now c.args.v.now c.args.a.now c.args.b.now c.in-Some.x.now c.in-Some-strip_prefix.y.now c.eq.result
    (strip_prefix_is Decides-eqb c.args.a.now c.args.u.now (Some c.in-Some.x) c.in-Some.ensures.cases)
    (strip_prefix_is Decides-eqb c.args.b.now c.args.v.now (Some c.in-Some-strip_prefix.y) c.in-Some-strip_prefix.ensures.cases)
    (slice_eq-Decides Decides-eqb _ _ _ c.eq.ensures)
