use Rattle.std.proofs.Common.{rules, ℕ}
use Rattle.std.proofs.lemmas.Iterator.{YieldsList-from_slice, IsFirst-from_position}
use Rattle.machines.specs.Answers.{ToldApart}
use Rattle.answers.specs.Logs.{told}
use Rattle.verdicts.specs.Orders.{word_at, FirstSaid}
use Rattle.verdicts.proofs.Chosen.{first_alike_at}
use Rattle.verdicts.proofs.greedy.first_alike.Goals as goal

pub returns : goal.returns
returns c =
    let answers = told c.args.index.now.answers.now in
    first_alike_at answers c.args.chosen.now c.args.i c.position.result
    (IsFirst-from_position _ _ _ (λ (j : ℕ). ToldApart (FirstSaid answers) (word_at answers c.args.i) (word_at answers j) → ⊥) (λ (j : ℕ). ToldApart (FirstSaid answers) (word_at answers c.args.i) (word_at answers j))
    c.position.ensures.ran (YieldsList-from_slice c.args.chosen.now cc) (λ x q k. search rules) (λ x q k. search rules))
