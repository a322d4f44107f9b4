use Rattle.std.proofs.Common.{ap, arith}
use Rattle.answers.specs.Values.{keys_of}
use Rattle.differences.specs.declared.product.Product.{Product}
use Rattle.differences.proofs.Steps.{next_visit}
use Rattle.differences.proofs.search.Search.expand.Goals as goal

pub returns-clause-sofar : goal.returns-clause-sofar
returns-clause-sofar c =
    next_visit c.loop-key.self c.args.at c.loop-key.key (omega (arith, ap (λ (g : Product). keys_of g.one.now) c.loop-key.invariant.same)) c.loop-key.invariant.going
