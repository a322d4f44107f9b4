-- The answers are looked through one by one.
use Rattle.std.proofs.Common.{◌≡◌, ℕ, ◌<◌, sym, ◌∙◌, subst, ⊎_elim, arith}
use Rattle.std.proofs.lemmas.Bool.{cases_order}
use Rattle.std.proofs.lemmas.Bool.Decides.{not_from_Decides}
use Rattle.areas.specs.Shapes.{dims}
use Rattle.model.specs.Observations.{word_at}
use Rattle.model.specs.Pages.{observations_of}
use Rattle.store.specs.Decoding.{page_of}
use Rattle.spelling.specs.Spelt.{spelt}
use Rattle.lookup.proofs.Spelled.{answers_counted, answer_spelt, spelt_viewed}
use Rattle.lookup.proofs.search.find.Goals as goal

pub returns-then-same : goal.returns-then-same
returns-then-same g c all = (
  omega (arith, answers_counted (g.M.Readable.held c.args.memory.now) (dims (g.M.Readable.laid_for c.args.memory.now)), c.answers-c-end.ensures.word),
  sym (answer_spelt (g.M.Readable.held c.args.memory.now) (dims (g.M.Readable.laid_for c.args.memory.now)) c.loop-c.c _ _ all (omega (arith, c.answers-c-end.ensures.word)) c.record_at-answer.ensures (spelt_viewed c.view.ensures.words c.view.ensures.shape c.spell.ensures)) ∙ c.same.ensures.0 c.if-same.true,
)

pub loop-c-preserved : goal.loop-c-preserved
loop-c-preserved g c all i h e =
    let spelled = answer_spelt (g.M.Readable.held c.args.memory.now) (dims (g.M.Readable.laid_for c.args.memory.now)) c.loop-c.c _ _ all (omega (arith, c.answers-c-end.ensures.word)) c.record_at-answer.ensures (spelt_viewed c.view.ensures.words c.view.ensures.shape c.spell.ensures) in
    ⊎_elim
    (λ (q : i ≡ c.loop-c.c). not_from_Decides _ c.same.ensures c.if-same.false
    (spelled ∙ subst (λ (z : ℕ). word_at (observations_of (page_of (g.M.Readable.held c.args.memory.now) (dims (g.M.Readable.laid_for c.args.memory.now)))) z ≡ spelt c.args.word) q e))
    (⊎_elim (λ (q : i < c.loop-c.c). c.loop-c.invariant all i q e) (λ (q : c.loop-c.c < i). omega (arith, h, q)))
    (cases_order i c.loop-c.c)

pub returns : goal.returns
returns g c all i h e = c.loop-c.invariant all i (omega (arith, answers_counted (g.M.Readable.held c.args.memory.now) (dims (g.M.Readable.laid_for c.args.memory.now)), c.answers-c-end.ensures.word)) e
