-- Each letter is looked at.
use Rattle.std.proofs.Common.{◌<◌, ◌≤◌, rules, tests}
use Rattle.std.proofs.lemmas.Iterator.{cases_from_all, YieldsList-from_slice}
use Rattle.refuting.proofs.Spelled.{keys_from_cases}
use Rattle.refuting.proofs.letters.of_keys.Goals as goal

pub returns : goal.returns
returns c =
    keys_from_cases c.all.result c.args.keys c.args.word.now
    (cases_from_all _ _ _ (λ x. x < c.args.keys) (λ x. c.args.keys ≤ x) c.all.ensures.ran (YieldsList-from_slice c.args.word.now cc) (λ x q k. search (rules, tests)) (λ x q k. search (rules, tests)))
