use Rattle.std.proofs.Common.{rules}
use Rattle.std.proofs.lemmas.Iterator.{YieldsList-from_slice, IsFirst-from_position}
use Rattle.answers.specs.declared.log.Answer.{Answer}
use Rattle.answers.specs.Logs.{told_of, ApartBy}
use Rattle.answers.proofs.Alike.{partner_of}
use Rattle.answers.proofs.apart.partner.Goals as goal

pub returns : goal.returns
returns c =
    partner_of c.args.u.now c.args.v.now (told_of c.args.a.now) c.args.answers.now c.position.result
    (IsFirst-from_position _ _ _ (λ (b : Answer). ApartBy c.args.u.now c.args.v.now (told_of c.args.a.now) (told_of b)) (λ (b : Answer). ApartBy c.args.u.now c.args.v.now (told_of c.args.a.now) (told_of b) → ⊥)
    c.position.ensures.ran (YieldsList-from_slice c.args.answers.now cc) (λ x q k. search rules) (λ x q k. search rules))
