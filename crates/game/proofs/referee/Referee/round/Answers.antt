use Rattle.std.proofs.Common.{◌≡◌, ◌∷◌, length, arith}
use Rattle.promises.specs.declared.Wanted.{Wanted}
use Rattle.promises.specs.declared.Wanted.TheVariants.{Ask, Larger, Short}
use Rattle.promises.specs.Calls.{stepped}
use Rattle.game.proofs.Wanting.{step_course, ask_whole, ask_within, larger_means, never_lost, short_means, step_most, step_asks, step_shows, onward_from, turned_from}
use Rattle.game.proofs.referee.Referee.round.Goals as goal

pub slice_bounds-answer-end : goal.slice_bounds-answer-end
slice_bounds-answer-end c = ask_within c.requires.1 c.step.new.store c.args.out.now c.step.new.out c.in-Ask.size c.in-Ask.ensures

pub slice_bounds-answer-end-in-Ask : goal.slice_bounds-answer-end-in-Ask
slice_bounds-answer-end-in-Ask c = ask_whole c.requires.1 c.step.new.store c.args.out.now c.step.new.out c.in-Ask.size c.in-Ask.ensures

pub answer-requires : goal.answer-requires
answer-requires c =
    let long : length c.step.new.store ≡ length c.args.store.now = omega arith in
    step_asks c.args.self.now c.requires.1 c.step.new.store c.args.out.now c.step.new.out long c.in-Ask.size c.in-Ask.ensures

pub judge-requires : goal.judge-requires
judge-requires c =
    let long : length c.step.new.store ≡ length c.args.store.now = omega arith in
    step_shows c.args.self.now c.requires.1 c.step.new.store c.args.out.now c.step.new.out long c.in-Table.rows c.in-Table.ensures

pub unreachable-requires : goal.unreachable-requires
unreachable-requires c = never_lost c.requires.1 c.step.new.store c.args.out.now c.step.new.out c.step.result c.in-Broken.is c.step.ensures

pub returns-in-Ask : goal.returns-in-Ask
returns-in-Ask c =
    let long : length c.step.new.store ≡ length c.args.store.now = omega arith in
    onward_from (step_most c.args.self.now c.requires.1 c.step.new.store c.args.out.now c.step.new.out long (Ask c.in-Ask.size) c.in-Ask.ensures) c.answer.ensures

pub returns-in-Table : goal.returns-in-Table
returns-in-Table c =
    let long : length c.step.new.store ≡ length c.args.store.now = omega arith in
    turned_from c.args.self.now c.judge.new.self c.args.store.now c.step.new.store c.judge.new.store c.step.new.out c.judge.result
    (step_most c.args.self.now c.requires.1 c.step.new.store c.args.out.now c.step.new.out long (Wanted.Table c.in-Table.rows) c.in-Table.ensures)
    c.judge.ensures

pub returns-in-Larger : goal.returns-in-Larger
returns-in-Larger c =
    let long : length c.step.new.store ≡ length c.args.store.now = omega arith in (
      stepped c.args.out.now c.step.new.out Larger ∷ c.requires.0,
      step_course c.requires.1 c.step.new.store c.args.out.now c.step.new.out Larger c.in-Larger.ensures long,
      larger_means c.requires.1 c.step.new.store c.args.out.now c.step.new.out c.in-Larger.ensures,
    )

pub returns-in-Short : goal.returns-in-Short
returns-in-Short c =
    let long : length c.step.new.store ≡ length c.args.store.now = omega arith in (
      stepped c.args.out.now c.step.new.out Short ∷ c.requires.0,
      step_course c.requires.1 c.step.new.store c.args.out.now c.step.new.out Short c.in-Short.ensures long,
      short_means c.requires.1 c.step.new.store c.args.out.now c.step.new.out c.in-Short.ensures,
    )
