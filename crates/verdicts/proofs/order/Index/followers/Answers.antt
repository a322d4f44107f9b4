use Rattle.std.proofs.Common.{rules, ℕ, ◌≡◌, ◌<◌, ◌-◌, ◌++◌, length, take, drop, vec_items, MatchOption, ap, ◌∙◌, subst}
use Rattle.std.specs.List.{AllWithin, HoldsAt}
use Rattle.std.proofs.lemmas.Iterator.{YieldsList-from_slice, IsFirst-from_position}
use Rattle.std.proofs.lemmas.List.{take_rest}
use Rattle.machines.specs.Words.{Word}
use Rattle.answers.specs.Logs.{told}
use Rattle.verdicts.specs.Orders.{word_at}
use Rattle.verdicts.proofs.Kept.{indexed_of}
use Rattle.verdicts.proofs.Followed.{followers_found}
use Rattle.verdicts.proofs.order.Index.followers.Goals as goal

pub returns : goal.returns
returns c =
    let answers = told c.args.self.now.answers.now in
    let order = vec_items c.args.self.now.order in
    let all = c.deref.result.now in
    let place = c.args.place in
    let rest = take (length all - place) (drop place all) in
    let word = c.word_in-word.result.now in
    let found = IsFirst-from_position _ _ _ (λ (i : ℕ). (x : Word) → word_at answers i ≡ word ++ x → ⊥) (λ (i : ℕ). (x : Word) × (word_at answers i ≡ word ++ x)) c.position.ensures.ran (YieldsList-from_slice rest cc) (λ x q k. search rules) (λ x q k. search rules) in
    followers_found answers order place rest c.position.result c.unwrap_or.result (indexed_of answers order c.args.self.now.indexed).sorted c.requires (take_rest all place ∙ ap (drop place) c.deref.ensures.value)
    (subst (λ z. MatchOption c.position.result (AllWithin (λ (i : ℕ). (x : Word) × (word_at answers i ≡ z ++ x)) rest 0 (length rest))
    (λ i. (i < length rest) × HoldsAt (λ (i : ℕ). (x : Word) → word_at answers i ≡ z ++ x → ⊥) rest i × AllWithin (λ (i : ℕ). (x : Word) × (word_at answers i ≡ z ++ x)) rest 0 i)) c.word_in-word.ensures found)
    c.unwrap_or.ensures
