use Rattle.std.proofs.Common.{ℕ, ◌≡◌, ◌+◌, ◌<◌, ◌++◌, length, get_or, Some, None, vec_items, sym, refl, ap, ◌∙◌, subst, inl, inr, arith, below_more}
use Rattle.std.proofs.lemmas.Slice.Eq.{strip_prefix_is}
use Rattle.std.proofs.lemmas.List.Prefix.{front_rest}
use Rattle.std.proofs.lemmas.Bool.{cases_lt}
use Rattle.std.proofs.lemmas.Bool.Decides.{Decides-eqb}
use Rattle.machines.specs.Words.{Word}
use Rattle.answers.specs.Logs.{told}
use Rattle.verdicts.specs.Orders.{word_at, shown_at, FirstAt, Other}
use Rattle.verdicts.proofs.Kept.{indexed_of}
use Rattle.verdicts.proofs.Quiet.{Quiet, quiet_before, quiet_after, quiet_here, all_quiet, first_in_order, from_place, places_left}
use Rattle.verdicts.proofs.order.Index.from_left.Goals as goal

pub loop-left-init : goal.loop-left-init
loop-left-init c = λ q h. quiet_before (told c.args.self.now.answers.now) (vec_items c.args.self.now.order) c.args.u.now c.args.v.now c.place_of-start.result c.place_of-start.ensures q (omega (arith, h))

pub returns-in_err-x : goal.returns-in_err-x
returns-in_err-x c =
    let answers = told c.args.self.now.answers.now in
    let order = vec_items c.args.self.now.order in
    let indexed = indexed_of answers order c.args.self.now.indexed in
    let start = c.place_of-start.result in
    let p = start + c.loop-left.left-index in
    let within : p < length order = omega (arith, places_left c.deref.result.now order start c.deref.ensures.value, c.loop-left-test.true) in
    let here = from_place c.deref.result.now order start c.loop-left.left-index c.deref.ensures.value in
    let other : (x : Word) → word_at answers (get_or order p 0) ≡ c.args.u.now ++ x → ⊥ = λ x e. strip_prefix_is Decides-eqb c.word_of.result.now c.args.u.now None c.in_err-x.ensures.cases x (c.word_of.ensures ∙ (ap (word_at answers) here ∙ e)) in
    rw c.from_residual.ensures (all_quiet answers order c.args.u.now c.args.v.now indexed (λ q h. elim (cases_lt q p) [
      | inl l ↦ c.loop-left.invariant q l
      | inr l ↦ quiet_after answers order c.args.u.now c.args.v.now start p indexed.sorted c.place_of-start.ensures (omega arith) within other q l h
    ]))

pub returns-in-Some : goal.returns-in-Some
returns-in-Some c =
    let answers = told c.args.self.now.answers.now in
    let order = vec_items c.args.self.now.order in
    let indexed = indexed_of answers order c.args.self.now.indexed in
    let start = c.place_of-start.result in
    let p = start + c.loop-left.left-index in
    let within : p < length order = omega (arith, places_left c.deref.result.now order start c.deref.ensures.value, c.loop-left-test.true) in
    let here = from_place c.deref.result.now order start c.loop-left.left-index c.deref.ensures.value in
    let left = sym c.word_of.ensures ∙ strip_prefix_is Decides-eqb c.word_of.result.now c.args.u.now (Some c.in_ok-x.x) c.in_ok-x.ensures.cases in
    let behind = front_rest _ c.args.u.now c.in_ok-x.x.now left in
    let found = c.in-Some.ensures in
    record {
      evidence = record {
        left_in = subst (λ (z : ℕ). z < length answers) (sym here) (indexed.sorted.inside p within);
        right_in = found.0;
        apart = record {
          alike = record { left = left ∙ ap (λ z. c.args.u.now ++ z) (sym behind); right = found.1 ∙ ap (λ z. c.args.v.now ++ z) (sym behind) };
          differ = found.2;
        };
        behind = refl;
      };
      left_first = subst (FirstAt answers) (sym here) (first_in_order answers order p indexed within);
      right_first = found.3;
    }

pub loop-left-preserved : goal.loop-left-preserved
loop-left-preserved c = λ q h.
    let answers = told c.args.self.now.answers.now in
    let order = vec_items c.args.self.now.order in
    let start = c.place_of-start.result in
    let p = start + c.loop-left.left-index in
    let here = from_place c.deref.result.now order start c.loop-left.left-index c.deref.ensures.value in
    let left = ap (word_at answers) (sym here) ∙ (sym c.word_of.ensures ∙ strip_prefix_is Decides-eqb c.word_of.result.now c.args.u.now (Some c.in_ok-x.x) c.in_ok-x.ensures.cases) in
    let none = subst (λ (z : ℕ). Other answers (c.args.v.now ++ c.in_ok-x.x.now) (shown_at answers z) None) here c.in_default.ensures in
    below_more (Quiet answers order c.args.u.now c.args.v.now) p c.loop-left.invariant
    (quiet_here answers order c.args.u.now c.args.v.now c.in_ok-x.x.now p left none) q (omega (arith, h))

pub returns : goal.returns
returns c =
    let answers = told c.args.self.now.answers.now in
    let order = vec_items c.args.self.now.order in
    all_quiet answers order c.args.u.now c.args.v.now (indexed_of answers order c.args.self.now.indexed) (λ q h. c.loop-left.invariant q (omega (arith, h, places_left c.deref.result.now order c.place_of-start.result c.deref.ensures.value, c.loop-left-test.false)))
