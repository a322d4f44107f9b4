use Rattle.std.proofs.Common.{◌≡◌, ℕ, ap, ◌∙◌, arith}
use Rattle.areas.specs.declared.area.Area.TheVariants.{Letters}
use Rattle.areas.specs.Layout.{sized, base_of}
use Rattle.areas.proofs.Bases.{base_any_length}
use Rattle.areas.proofs.shape.Shape.new.Goals as goal

-- The counts that were made are those that were asked for.
same_sizes : (k n k' n' l : ℕ) → k' ≡ k → n' ≡ n → sized k' n' l ≡ sized k n l
same_sizes k n k' n' l e f = ap (λ (z : ℕ). sized z n' l) e ∙ ap (λ (z : ℕ). sized k z l) f

pub invariant_of-result : goal.invariant_of-result
invariant_of-result c = record { fits = omega (arith, base_any_length c.in_ok-counts.counts.keys c.in_ok-counts.counts.most 0 c.args.length Letters) }

pub returns-then-start-length : goal.returns-then-start-length
returns-then-start-length c = λ l.
    let k = c.in_ok-counts.ensures in
    let e = same_sizes c.args.keys c.args.most c.in_ok-counts.counts.keys c.in_ok-counts.counts.most c.args.length k.keys k.most in
    omega (arith, l.fits, base_any_length c.in_ok-counts.counts.keys c.in_ok-counts.counts.most 0 c.args.length Letters, ap (λ d. base_of d Letters) e)
