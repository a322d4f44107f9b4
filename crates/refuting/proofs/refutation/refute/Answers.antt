-- Whether the word was told of before.
use Rattle.std.proofs.Common.{subst}
use Rattle.std.specs.Prelude.{Some, None}
use Rattle.model.specs.Pages.{observations_of}
use Rattle.store.specs.Decoding.{page_of}
use Rattle.lookup.specs.Named.{AnswerTo, AllNamed}
use Rattle.areas.specs.Shapes.{dims}
use Rattle.areas.proofs.Memories.{dims_kept, done_at, writes_then}
use Rattle.refuting.proofs.Keeping.{refuted_anew, refuted_told}
use Rattle.refuting.proofs.refutation.refute.Goals as goal

pub returns-in-None : goal.returns-in-None
returns-in-None c = writes_then c.keep.ensures c.enter.ensures (λ r.
    refuted_anew c.args.memory.now.words.now c.keep.new.memory.words.now c.enter.new.memory.words.now (dims c.args.memory.now.shape) c.args.word.now c.args.answer r (c.keep.ensures.words r.shows_word r.room) c.first_search-search.result (c.first_search-search.ensures r.shows_word) (subst (λ z. AllNamed c.args.memory.now.words.now (dims c.args.memory.now.shape) → AnswerTo (observations_of (page_of c.args.memory.now.words.now (dims c.args.memory.now.shape))) z None) c.from.ensures c.in-None.ensures) (done_at c.enter.ensures (dims_kept c.keep.ensures)))

pub returns-in-Some : goal.returns-in-Some
returns-in-Some c = writes_then c.keep-in-Some.ensures c.enter-in-Some.ensures (λ r.
    refuted_told c.args.memory.now.words.now c.keep-in-Some.new.memory.words.now c.enter-in-Some.new.memory.words.now (dims c.args.memory.now.shape) c.args.word.now c.args.answer r (c.keep-in-Some.ensures.words r.shows_word r.room) _ (subst (λ z. AllNamed c.args.memory.now.words.now (dims c.args.memory.now.shape) → AnswerTo (observations_of (page_of c.args.memory.now.words.now (dims c.args.memory.now.shape))) z (Some c.in-Some.field-0)) c.from.ensures c.in-Some.ensures) (done_at c.enter-in-Some.ensures (dims_kept c.keep-in-Some.ensures)))
