use Rattle.std.proofs.Common.{◌≡◌, length, sym, refl, ap, ◌∙◌, subst, arith}
use Rattle.machines.specs.Words.{Word}
use Rattle.machines.specs.Tables.{shows}
use Rattle.answers.specs.Values.{keys_of, cells_of, Shows}
use Rattle.game.proofs.Courses.{course_few, course_heard, onward}
use Rattle.game.proofs.referee.Referee.answer.Goals as goal

pub overflow_add-self : goal.overflow_add-self
overflow_add-self c = let few = course_few c.requires.1 (omega arith) in omega (arith, few)

pub returns : goal.returns
returns c =
    let m = c.args.self.now.machine.now in
    let long : length c.told.new.store ≡ length c.args.store.now = omega arith in
    let shown = (subst (Shows m c.args.word.now) c.unwrap-shown.ensures c.shows.ensures).1 in
    onward refl
    (course_heard c.requires.1 c.told.new.store c.unwrap-shown.result c.told.result long c.requires.2 (shown ∙ ap (λ (u : Word). shows (keys_of m) (cells_of m) u) (sym c.requires.3)) c.told.ensures)
    (omega arith)
