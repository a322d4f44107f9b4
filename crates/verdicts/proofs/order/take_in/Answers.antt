use Rattle.std.proofs.Common.{◌≡◌, ℕ, List, vec_items, Result, Ok, Err, refl, ◌∙◌, subst, append-nil, arith}
use Rattle.machines.specs.Words.{Word}
use Rattle.machines.specs.Answers.{Told}
use Rattle.answers.specs.Logs.{told}
use Rattle.verdicts.specs.Orders.{word_at, Sought}
use Rattle.verdicts.proofs.Inserted.{known_ordered, wider_ordered}
use Rattle.verdicts.proofs.order.take_in.Goals as goal

-- What was found of the slice holds of the list.
sought_at : (answers : List Told) (slice order : List ℕ) (w v : Word) (r : Result ℕ ℕ) → slice ≡ order → w ≡ v → Sought answers slice w r → Sought answers order v r
sought_at answers slice order w v r e f h = subst (λ z. Sought answers z v r) e (subst (λ z. Sought answers slice z r) f h)

pub returns-in_ok-insert : goal.returns-in_ok-insert
returns-in_ok-insert c =
    let answers = told c.args.answers.now in
    let order = vec_items c.args.order.now in
    let i = c.args.i in
    let place = c.in-Err.place in
    let found = sought_at answers _ order _ (word_at answers i) (Err place) c.as_slice.ensures.value (append-nil c.word_of.result.now ∙ c.word_of.ensures) c.in-Err.ensures in
    let put = c.in_ok-insert.ensures in
    wider_ordered answers i order (vec_items c.insert.new.self) place c.requires.before c.requires.within found.0 found.1
    (record {
      long = omega (arith, put.len, c.insert.new.self.ok.0, c.args.order.now.ok.0);
      front = λ k h. put.by_index.1 k 0 h;
      here = put.by_index.0 0 refl;
      back = λ k h. put.by_index.2 k 0 refl h;
    })

pub returns-in_default : goal.returns-in_default
returns-in_default c =
    let answers = told c.args.answers.now in
    let order = vec_items c.args.order.now in
    let place = c.in_default.field-0 in
    let found = sought_at answers _ order _ (word_at answers c.args.i) (Ok place) c.as_slice.ensures.value (append-nil c.word_of.result.now ∙ c.word_of.ensures) c.in_default.ensures in
    known_ordered answers c.args.i order place found.1 c.requires.before
