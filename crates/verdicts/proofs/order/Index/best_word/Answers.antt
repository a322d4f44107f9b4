use Rattle.std.proofs.Common.{◌≡◌, length, vec_items, sym, subst, arith}
use Rattle.std.proofs.lemmas.List.{get_or_read}
use Rattle.answers.specs.Logs.{told}
use Rattle.answers.specs.Values.{keys_of, cells_of}
use Rattle.verdicts.specs.Choices.{LeadsHere, Best, CandidateFor, WordFor}
use Rattle.verdicts.proofs.Kept.{indexed_of}
use Rattle.verdicts.proofs.order.Index.best_word.Goals as goal

pub returns-in_err-candidate : goal.returns-in_err-candidate
returns-in_err-candidate c =
    let t = c.args.table.now in
    let answers = told c.args.self.now.answers.now in
    let order = vec_items c.args.self.now.order in
    let none = subst (CandidateFor (keys_of t) (cells_of t) answers order c.args.row.0 c.loop-place.place) c.in_err-candidate.was c.loop-place.invariant in
    subst (WordFor (keys_of t) (cells_of t) answers c.args.row.0) (sym c.from_residual.ensures) (λ i h leads.
    let place = (indexed_of answers order c.args.self.now.indexed).every i h in
    none place.0 (omega (arith, place.1, c.loop-place-test.false, c.len-place-end.ensures, c.args.self.now.order.ok.0)) (subst (LeadsHere (keys_of t) (cells_of t) c.args.row.0) (sym place.2) leads))

pub returns : goal.returns
returns c =
    let t = c.args.table.now in
    let answers = told c.args.self.now.answers.now in
    let order = vec_items c.args.self.now.order in
    let candidate = c.in_ok-candidate.candidate in
    let all : c.loop-place.place ≡ length order = omega (arith, c.loop-place-test.false, c.loop-place.auto.place-end, c.len-place-end.ensures, c.args.self.now.order.ok.0) in
    let found = subst (CandidateFor (keys_of t) (cells_of t) answers order c.args.row.0 c.loop-place.place) c.in_ok-candidate.was c.loop-place.invariant in
    let best = subst (λ n. Best (keys_of t) (cells_of t) answers order c.args.row.0 n candidate.place candidate.followers) all found in
    (order, candidate.place, candidate.followers, indexed_of answers order c.args.self.now.indexed, best, get_or_read order candidate.place c.index.result.now best.place_in c.index.ensures 0)
