use Rattle.std.proofs.Common.{rules, ◌+◌, ◌*◌, ◌<◌, subst, add-mul, one-mul, arith}
use Rattle.std.proofs.lemmas.Nat.{mul-add-lt}
use Rattle.std.proofs.lemmas.Result.{on_ok_weaker}
use Rattle.answers.specs.Logs.{told}
use Rattle.answers.specs.Made.{lists}
use Rattle.answers.specs.Values.{keys_of, rows_of, cells_of}
use Rattle.verdicts.specs.Faults.{EdgeApart}
use Rattle.verdicts.specs.Listings.{Lists, edge_at}
use Rattle.verdicts.proofs.Listed.{lists_few, lists_looked}
use Rattle.verdicts.proofs.Places.{few_places}
use Rattle.verdicts.proofs.checks.Examination.look_along.Goals as goal

pub look-requires-clause-fits : goal.look-requires-clause-fits
look-requires-clause-fits c =
    let t = c.args.self.now.table.now in
    let e = c.args.row * keys_of t + c.args.key in
    let edge : e < rows_of t * keys_of t = omega (arith, mul-add-lt c.args.row (keys_of t) c.args.key (rows_of t) c.requires.row c.requires.key) in
    let listed = lists_few (edge_at (keys_of t) (rows_of t)) (EdgeApart (keys_of t) (rows_of t) (cells_of t) (lists c.args.self.now.words.now) (told c.args.self.now.index.answers.now)) c.args.self.now.most (e * rows_of t) c.args.found.now c.requires.sofar in
    omega (arith, listed, few_places e (keys_of t) (rows_of t) t.few_rows t.few_keys edge, c.rows.ensures, t.few_rows)

pub returns : goal.returns
returns c =
    let t = c.args.self.now.table.now in
    let e = c.args.row * keys_of t + c.args.key in
    let at = edge_at (keys_of t) (rows_of t) in
    let good = EdgeApart (keys_of t) (rows_of t) (cells_of t) (lists c.args.self.now.words.now) (told c.args.self.now.index.answers.now) in
    on_ok_weaker c.look.result (λ k.
    let more = lists_looked at good c.args.self.now.most (e * rows_of t) c.rows.result c.args.found.now c.look.new.self c.requires.sofar
    (λ j o h r. let within : j < rows_of t = omega (arith, h, c.rows.ensures) in search rules) k in
    subst (λ m. Lists at good m c.args.self.now.most c.look.new.self) (omega (arith, add-mul e 1 (rows_of t), one-mul (rows_of t), c.rows.ensures)) more) c.look.ensures
