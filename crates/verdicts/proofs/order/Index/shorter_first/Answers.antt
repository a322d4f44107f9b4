use Rattle.std.proofs.Common.{◌≡◌, length, get_or, vec_items, sym, ap, ◌∙◌, inl, inr, arith}
use Rattle.std.proofs.lemmas.Bool.{ltb-true, lt-ltb}
use Rattle.answers.specs.Logs.{told}
use Rattle.verdicts.specs.Orders.{word_at}
use Rattle.verdicts.proofs.Kept.{indexed_of}
use Rattle.verdicts.proofs.Followed.{place_decides}
use Rattle.verdicts.proofs.order.Index.shorter_first.Goals as goal

pub returns : goal.returns
returns c =
    let answers = told c.args.self.now.answers.now in
    let order = vec_items c.args.self.now.order in
    let sorted = (indexed_of answers order c.args.self.now.indexed).sorted in
    let one = c.args.one in
    let other = c.args.other in
    let long : length (word_at answers (get_or order one 0)) ≡ length (word_at answers (get_or order other 0)) = sym (ap length c.word_in-u.ensures) ∙ (c.if-u-v.false ∙ ap length c.word_in-v.ensures) in (
      λ e. inr (long, sorted.rising one other (ltb-true one other e) c.requires.other),
      λ less. lt-ltb one other (elim less [ inl l ↦ absurd (omega (arith, l, long)) | inr b ↦ place_decides answers order one other sorted c.requires.one c.requires.other b.1 ]),
    )
