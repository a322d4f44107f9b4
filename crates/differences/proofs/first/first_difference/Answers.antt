use Rattle.std.proofs.Common.{◌≡◌, ◌∙◌, [], sym, ap, subst}
use Rattle.std.proofs.lemmas.Bool.Decides.{not_from_Decides}
use Rattle.machines.specs.Tables.{row_shows}
use Rattle.answers.specs.declared.table.Table.{Table}
use Rattle.answers.specs.Values.{keys_of, cells_of}
use Rattle.differences.specs.Differences.{FirstDifference}
use Rattle.differences.proofs.Covered.{empty_first}
use Rattle.differences.proofs.first.first_difference.Goals as goal

pub returns-then-not-alike : goal.returns-then-not-alike
returns-then-not-alike c =
    let g = c.in_ok-product.product in
    let one = c.args.one.now in
    let other = c.args.other.now in
    let both = rw c.in_ok-product.ensures.ok_part at c.of.ensures in
    let alike : keys_of one ≡ keys_of other = ap keys_of (sym both.0) ∙ (g.same_keys ∙ ap keys_of both.1) in
    let k = keys_of g.one.now in
    let first = empty_first k (cells_of g.one.now) (cells_of g.other.now)
    (λ e. not_from_Decides _ c.alike.ensures c.if-not-alike.true (e ∙ ap (λ k. row_shows k (cells_of g.other.now) 0) g.same_keys)) in
    let shown : FirstDifference (keys_of one) (cells_of one) (cells_of other) [] =
    subst (λ (t : Table). FirstDifference (keys_of one) (cells_of one) (cells_of t) []) both.1
    (subst (λ (t : Table). FirstDifference (keys_of t) (cells_of t) (cells_of g.other.now) []) both.0 first) in
    record { alike = alike; found = subst (FirstDifference (keys_of one) (cells_of one) (cells_of other)) (sym c.new.ensures.items) shown }
