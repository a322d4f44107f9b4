-- What is waited for is taken.
use Rattle.std.proofs.Common.{sym, rules}
use Rattle.moves.specs.Phases.{search_value}
use Rattle.areas.proofs.Memories.{lent_back}
use Rattle.promises.specs.declared.Given.TheVariants.{Taken}
use Rattle.promises.specs.Promises.{ToldSays}
use Rattle.store.specs.Reading.{state_of}
use Rattle.calls.proofs.Taking.{told_unstored, told_unasked, told_cell, told_middle}
use Rattle.calls.proofs.answering.told.Goals as goal

pub returns-in_default : goal.returns-in_default
returns-in_default c = told_unstored c.args.store.now c.args.answer c.in_default.ensures

pub returns-in-AsksCell : goal.returns-in-AsksCell
returns-in-AsksCell c =
    lent_back (λ w. ToldSays state_of (state_of c.args.store.now) c.args.answer c.args.store.now w Taken) c.hear_cell.new.memory.words.now (search rules)
    (told_cell c.args.store.now c.args.answer c.in-Some.shape c.in-Some.ensures c.hear_cell.new.memory.words.now c.in-AsksCell.edge.0 c.in-AsksCell.suffix (sym c.in-AsksCell.ensures) c.hear_cell.ensures.words)

pub returns-in-AsksMiddle : goal.returns-in-AsksMiddle
returns-in-AsksMiddle c =
    lent_back (λ w. ToldSays state_of (state_of c.args.store.now) c.args.answer c.args.store.now w Taken) c.hear_middle.new.memory.words.now (search rules)
    (told_middle c.args.store.now c.args.answer c.in-Some.shape c.in-Some.ensures c.hear_middle.new.memory.words.now (search_value c.in-AsksMiddle.search) (sym c.in-AsksMiddle.ensures) c.hear_middle.ensures.words)

pub returns-in_default-phase_of : goal.returns-in_default-phase_of
returns-in_default-phase_of c =
    told_unasked c.args.store.now c.args.answer c.in-Some.shape c.in-Some.ensures c.phase_of.result c.phase_of.ensures c.in_default-phase_of.not-AsksCell c.in_default-phase_of.not-AsksMiddle
