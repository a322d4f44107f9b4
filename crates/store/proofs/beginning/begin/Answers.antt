use Rattle.std.proofs.Common.{◌≡◌, ℕ, List, length, sym, ap, ◌∙◌, subst, inl, inr, arith, rules}
use mathlib.Core.Option.{some}
use Rattle.areas.specs.Layout.{Dims, Limits}
use Rattle.areas.specs.Shapes.{dims}
use Rattle.areas.proofs.Memories.{lent_back}
use Rattle.areas.proofs.Sums.{layout_fits}
use Rattle.model.specs.States.{fresh}
use Rattle.promises.specs.declared.Began.{Began}
use Rattle.promises.specs.Promises.{Unfit, BeganPost}
use Rattle.store.specs.Begun.{Fit}
use Rattle.store.specs.Reading.{state_of}
use Rattle.store.proofs.Doors.{laid_out_state}
use Rattle.store.proofs.beginning.begin.Goals as goal

fit_or_not : (k n room : ℕ) (w : List ℕ) → Fit k n room w → Unfit k n room w → ⊥
fit_or_not k n room w f (inl h) = omega (arith, f.some_keys, h)
fit_or_not k n room w f (inr (inl h)) = omega (arith, f.few_keys, h)
fit_or_not k n room w f (inr (inr (inl h))) = omega (arith, f.some_states, h)
fit_or_not k n room w f (inr (inr (inr (inl h)))) = omega (arith, f.few_states, h)
fit_or_not k n room w f (inr (inr (inr (inr h)))) = omega (arith, f.long, h)

never : Began.Ready ≡ Began.Few → ⊥
never e = let z : ◌≡◌ {A = ℕ} 0 1 = cc in omega arith

pub returns-in_default : goal.returns-in_default
returns-in_default c =
    let f = c.if-not-is_fit.ensures in
    absurd (c.in_default.ensures (layout_fits.limits c.args.keys c.args.most c.args.room (length c.args.store.now) f.some_keys f.few_keys f.some_states f.few_states (omega (arith, f.long))))

pub returns : goal.returns
returns c =
    let f = c.if-not-is_fit.ensures in
    let w = c.args.store.now in
    let shaped = c.in-Some.ensures in
    let long : length w ≡ (dims c.in-Some.shape).length = sym (ap (λ (d : Dims). d.length) shaped.1) in
    let state = laid_out_state w c.lay_out.new.memory.words.now (dims c.in-Some.shape) (subst Limits (sym shaped.1) shaped.0) long (c.lay_out.ensures.words long) in
    lent_back (λ z. BeganPost state_of c.args.keys c.args.most c.args.room w z Began.Ready) c.lay_out.new.memory.words.now (search rules) (record {
      ready = λ _. state ∙ ap (λ (d : Dims). some (fresh d.keys d.most)) shaped.1;
      few = (λ u. absurd (fit_or_not c.args.keys c.args.most c.args.room w f u), λ e. absurd (never e));
      kept = λ e. absurd (never e);
    })
