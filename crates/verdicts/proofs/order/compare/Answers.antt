use Rattle.std.proofs.Common.{◌-◌, length, take, drop, Equal, refl, sym, ◌∙◌}
use Rattle.std.proofs.lemmas.List.{take_rest}
use Rattle.verdicts.proofs.Compared.{cut_compares, unequal_is}
use Rattle.verdicts.proofs.order.compare.Goals as goal

pub returns-in-Equal : goal.returns-in-Equal
returns-in-Equal c =
    let w = c.args.w.now in
    let n = c.min-n.result in
    cut_compares w c.args.u.now c.args.x.now (take n w) (take (length w - n) (drop n w)) n Equal c.cmp-in-Equal.result c.min-n.ensures refl (take_rest w n) (sym c.in-Equal.is ∙ c.cmp.ensures) c.cmp-in-Equal.ensures

pub returns-in_default : goal.returns-in_default
returns-in_default c =
    let w = c.args.w.now in
    let n = c.min-n.result in
    cut_compares w c.args.u.now c.args.x.now (take n w) (drop n w) n c.cmp.result c.cmp.result c.min-n.ensures refl refl c.cmp.ensures (unequal_is c.cmp.result _ c.in_default.not-Equal)
