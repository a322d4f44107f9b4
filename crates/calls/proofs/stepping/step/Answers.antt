-- What is settled and wanted.
use Rattle.std.proofs.Common.{◌≤◌, length, subst, rules}
use Rattle.areas.proofs.Memories.{dims_kept, lent_back}
use Rattle.model.specs.States.{out_words}
use Rattle.promises.specs.Promises.{NextSays}
use Rattle.store.specs.Decoding.{model_of}
use Rattle.store.specs.Reading.{state_of}
use Rattle.moves.specs.Holding.{Holds}
use Rattle.moves.specs.Observed.{page_at}
use Rattle.writing.specs.Wants.{Wants}
use Rattle.calls.proofs.Steps.{step_unstored, step_short, step_done}
use Rattle.calls.proofs.stepping.step.Goals as goal

pub returns-in_default : goal.returns-in_default
returns-in_default c = step_unstored c.args.store.now c.args.out.now c.in_default.ensures

pub returns-then-is_short : goal.returns-then-is_short
returns-then-is_short c = step_short c.args.store.now c.args.out.now c.in-Some.shape c.in-Some.ensures c.if-is_short.ensures

pub returns : goal.returns
returns c =
    let w = c.settle.new.memory.words.now in
    let wants =
    subst (λ d. Holds w d → out_words d.keys d.most (length (page_at w d).log) ≤ length c.args.out.now → Wants (model_of w d) c.args.out.now c.wanted.new.out c.wanted.result)
    (dims_kept c.settle.ensures) c.wanted.ensures.wants in
    lent_back (λ z. NextSays state_of (state_of c.args.store.now) c.args.store.now z c.args.out.now c.wanted.new.out c.wanted.result) w (search rules)
    (step_done c.args.store.now c.args.out.now c.in-Some.shape c.in-Some.ensures w c.wanted.new.out c.wanted.result c.wanted.ensures.stored c.settle.ensures.words.moved c.settle.ensures.words.kept wants c.if-is_short.ensures)
