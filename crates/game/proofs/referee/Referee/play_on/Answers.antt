use Rattle.std.proofs.Common.{ℕ, Ok, Err, ap, arith}
use Rattle.std.proofs.lemmas.Result.{err_from_is_err_and}
use Rattle.areas.specs.Layout.{answer_count}
use Rattle.answers.specs.declared.table.Table.{Table}
use Rattle.answers.specs.Values.{keys_of}
use Rattle.game.specs.Courses.{most_in}
use Rattle.game.proofs.Courses.{course_fits}
use Rattle.game.proofs.Wanting.{ended_since}
use Rattle.game.proofs.referee.Referee.play_on.Goals as goal

pub returns-in-Some : goal.returns-in-Some
returns-in-Some c =
    let turned = rw c.in-Some.is at c.in_ok-rows.ensures in
    ended_since c.args.self.now.machine.now c.loop-rows.self.machine.now _ _ c.round.new.store c.round.new.out c.round.new.self.transcript (Ok c.in-Some.rows) c.loop-rows.invariant.machine c.loop-rows.invariant.most turned

pub returns-in_err-rows : goal.returns-in_err-rows
returns-in_err-rows c =
    let p = err_from_is_err_and c.from_residual.result c.from_residual.ensures.1 in
    rw (p.1, p.2)
    (ended_since c.args.self.now.machine.now c.loop-rows.self.machine.now _ _ c.round.new.store c.round.new.out c.round.new.self.transcript (Err c.in_err-rows.field-0.0) c.loop-rows.invariant.machine
    c.loop-rows.invariant.most c.in_err-rows.ensures)

pub loop-rows-smaller : goal.loop-rows-smaller
loop-rows-smaller c =
    let h = rw c.in_default.is at c.in_ok-rows.ensures in
    let fits = course_fits h.going.1 (omega arith) in
    let most = ap (λ (n : ℕ). answer_count (keys_of c.loop-rows.self.machine.now) n) h.most in
    let machine = ap (λ (m : Table). answer_count (keys_of m) (most_in c.round.new.store)) h.machine in
    omega (arith, fits, h.more, most, machine)
