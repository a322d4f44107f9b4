use Rattle.std.proofs.Common.{ℕ, List, ◌++◌, drop, ap, ◌∙◌, arith, rules}
use Rattle.areas.proofs.Laid.{laid_all}
use Rattle.areas.proofs.bulk.copy_front.Goals as goal

pub returns : goal.returns
returns c =
    ap (λ (xs : List ℕ). xs ++ drop c.min-count.result c.args.part.now) (search rules)
    ∙ laid_all c.args.part.now c.args.word.now c.min-count.result (omega arith)
