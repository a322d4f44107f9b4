use Rattle.std.proofs.Common.{◌*◌, sym, subst, zero-mul}
use Rattle.answers.specs.Logs.{told}
use Rattle.answers.specs.Made.{lists}
use Rattle.answers.specs.Values.{keys_of, rows_of, cells_of}
use Rattle.verdicts.specs.Faults.{EdgeApart}
use Rattle.verdicts.specs.Listings.{Lists, edge_at}
use Rattle.verdicts.proofs.Listed.{lists_none}
use Rattle.verdicts.proofs.checks.Examination.open_edges.Goals as goal

pub loop-row-init : goal.loop-row-init
loop-row-init c =
    let t = c.args.self.now.table.now in
    let at = edge_at (keys_of t) (rows_of t) in
    let good = EdgeApart (keys_of t) (rows_of t) (cells_of t) (lists c.args.self.now.words.now) (told c.args.self.now.index.answers.now) in
    subst (λ n. Lists at good (n * rows_of t) c.args.self.now.most c.new-found.result) (sym (zero-mul (keys_of t)))
    (subst (λ n. Lists at good n c.args.self.now.most c.new-found.result) (sym (zero-mul (rows_of t))) (lists_none at good c.args.self.now.most c.new-found.result c.new-found.ensures.first c.new-found.ensures.count))
