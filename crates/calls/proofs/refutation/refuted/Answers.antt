-- Each refusal, and what is taken.
use Rattle.std.proofs.Common.{ℕ, length, sym, subst, rules}
use Rattle.std.proofs.lemmas.Bool.Decides.{not_from_Decides}
use Rattle.machines.specs.Words.{Keys}
use Rattle.areas.proofs.Memories.{lent_back}
use Rattle.promises.specs.declared.Given.TheVariants.{Taken}
use Rattle.promises.specs.Promises.{RefutedSays}
use Rattle.store.specs.Reading.{state_of}
use Rattle.calls.proofs.Refusals.{refuted_unstored, refuted_unasked, refuted_keys, refuted_same, refuted_full, refuted_taken}
use Rattle.calls.proofs.refutation.refuted.Goals as goal

pub returns-in_default : goal.returns-in_default
returns-in_default c = refuted_unstored c.args.store.now c.args.word.now c.args.answer c.in_default.ensures

pub returns-in_default-phase_of : goal.returns-in_default-phase_of
returns-in_default-phase_of c =
    refuted_unasked c.args.store.now c.args.word.now c.args.answer c.in-Some.shape c.in-Some.ensures c.phase_of.result c.phase_of.ensures c.in_default-phase_of.not-ShowsTable

pub returns-then-not-of_keys : goal.returns-then-not-of_keys
returns-then-not-of_keys c =
    refuted_keys c.args.store.now c.args.word.now c.args.answer c.in-Some.shape c.in-Some.ensures c.phase_of.result c.phase_of.ensures c.in-ShowsTable.is
    (λ keys. not_from_Decides _ c.of_keys.ensures c.if-not-of_keys.true (subst (λ (z : ℕ). Keys z c.args.word.now) (sym c.keys.ensures) keys))

pub returns-then-shown_after-answer : goal.returns-then-shown_after-answer
returns-then-shown_after-answer c =
    refuted_same c.args.store.now c.args.word.now c.args.answer c.in-Some.shape c.in-Some.ensures c.phase_of.result c.phase_of.ensures c.in-ShowsTable.is
    (subst (λ (z : ℕ). Keys z c.args.word.now) c.keys.ensures (c.of_keys.ensures.0 c.if-not-of_keys.false))
    c.shown_after.result c.shown_after.ensures c.if-shown_after-answer.true

pub returns-then-not-has_room : goal.returns-then-not-has_room
returns-then-not-has_room c =
    refuted_full c.args.store.now c.args.word.now c.args.answer c.in-Some.shape c.in-Some.ensures c.phase_of.result c.phase_of.ensures c.in-ShowsTable.is
    (subst (λ (z : ℕ). Keys z c.args.word.now) c.keys.ensures (c.of_keys.ensures.0 c.if-not-of_keys.false))
    c.shown_after.result c.shown_after.ensures c.if-shown_after-answer.false c.if-not-has_room.ensures

pub returns : goal.returns
returns c =
    lent_back (λ w. RefutedSays state_of (state_of c.args.store.now) (length c.args.store.now) c.args.word.now c.args.answer c.args.store.now w Taken) c.refute.new.memory.words.now (search rules)
    (refuted_taken c.args.store.now c.args.word.now c.args.answer c.in-Some.shape c.in-Some.ensures c.phase_of.result c.phase_of.ensures c.in-ShowsTable.is
    (subst (λ (z : ℕ). Keys z c.args.word.now) c.keys.ensures (c.of_keys.ensures.0 c.if-not-of_keys.false))
    c.shown_after.result c.shown_after.ensures c.if-shown_after-answer.false c.refute.new.memory.words.now c.if-not-has_room.ensures c.refute.ensures.words)
