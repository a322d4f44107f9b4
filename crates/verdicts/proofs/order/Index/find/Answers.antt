use Rattle.std.proofs.Common.{vec_items, sym, subst}
use Rattle.answers.specs.Logs.{told}
use Rattle.verdicts.specs.Orders.{Sorted}
use Rattle.verdicts.proofs.Kept.{indexed_of}
use Rattle.verdicts.proofs.order.Index.find.Goals as goal

pub search-requires : goal.search-requires
search-requires c =
    let answers = told c.args.self.now.answers.now in
    subst (Sorted answers) (sym c.as_slice.ensures.value) (indexed_of answers (vec_items c.args.self.now.order) c.args.self.now.indexed).sorted
