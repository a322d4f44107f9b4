use Rattle.std.proofs.Common.{rules, ◌≡◌, ◌*◌, ◌<◌, sym, subst, zero-mul, suc-mul, arith}
use Rattle.answers.specs.Logs.{told}
use Rattle.answers.specs.Made.{lists}
use Rattle.answers.specs.Values.{rows_of}
use Rattle.verdicts.specs.Faults.{PairApart}
use Rattle.verdicts.specs.Listings.{Lists, pair_at}
use Rattle.verdicts.proofs.Listed.{lists_none, lists_few, lists_looked}
use Rattle.verdicts.proofs.Places.{few_pairs}
use Rattle.verdicts.proofs.checks.Examination.pairs_alike.Goals as goal

pub loop-one-init : goal.loop-one-init
loop-one-init c =
    let n = rows_of c.args.self.now.table.now in
    let good = PairApart n (lists c.args.self.now.words.now) (told c.args.self.now.index.answers.now) in
    subst (λ m. Lists (pair_at n) good m c.args.self.now.most c.new-found.result) (sym (zero-mul n)) (lists_none (pair_at n) good c.args.self.now.most c.new-found.result c.new-found.ensures.first c.new-found.ensures.count)

pub look-requires-clause-fits : goal.look-requires-clause-fits
look-requires-clause-fits c =
    let t = c.args.self.now.table.now in
    let listed = lists_few (pair_at (rows_of t)) (PairApart (rows_of t) (lists c.args.self.now.words.now) (told c.args.self.now.index.answers.now)) c.args.self.now.most (c.loop-one.one-counter * rows_of t) c.loop-one.found c.loop-one.invariant in
    omega (arith, listed, few_pairs c.loop-one.one-counter (rows_of t) t.few_rows (omega (arith, c.loop-one-test.true, c.rows-rows.ensures)), c.rows-rows.ensures, t.few_rows)

pub loop-one-preserved : goal.loop-one-preserved
loop-one-preserved c =
    let t = c.args.self.now.table.now in
    let n = rows_of t in
    let i = c.loop-one.one-counter in
    let good = PairApart n (lists c.args.self.now.words.now) (told c.args.self.now.index.answers.now) in
    let more = lists_looked (pair_at n) good c.args.self.now.most (i * n) c.rows-rows.result c.loop-one.found c.look.new.self c.loop-one.invariant
    (λ j o h r. let within : j < n = omega (arith, h, c.rows-rows.ensures) in search rules) c.in_ok-look.ensures in
    subst (λ m. Lists (pair_at n) good m c.args.self.now.most c.look.new.self) (omega (arith, suc-mul i n, c.rows-rows.ensures)) more

pub returns : goal.returns
returns c =
    let t = c.args.self.now.table.now in
    let n = rows_of t in
    let good = PairApart n (lists c.args.self.now.words.now) (told c.args.self.now.index.answers.now) in
    let all : c.loop-one.one-counter ≡ n = omega (arith, c.loop-one-test.false, c.loop-one.auto.one-counter-end, c.rows-rows.ensures) in
    subst (λ m. Lists (pair_at n) good (m * n) c.args.self.now.most c.loop-one.found) all c.loop-one.invariant
