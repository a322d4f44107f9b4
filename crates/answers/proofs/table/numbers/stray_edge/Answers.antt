use Rattle.std.proofs.Common.{rules, ◌≡◌, ℕ, ◌+◌, ◌*◌, ◌<◌, ◌++◌, length, drop, sym, ap, ◌∙◌, subst, arith, below_more}
use Rattle.std.specs.Iterator.Adapters.{enumerate_source, enumerate_count}
use Rattle.std.specs.Slice.Iter.{chunks_exact_rest}
use Rattle.machines.specs.Tables.{next}
use Rattle.answers.proofs.Rows.{next_in_chunk, rest_more, no_more_rows}
use Rattle.answers.proofs.table.numbers.stray_edge.Goals as goal

pub loop-i-preserved : goal.loop-i-preserved
loop-i-preserved c =
    let k = c.args.keys in
    let t = c.args.numbers.now in
    let i = enumerate_count c.loop-i.i-iterator in
    let sofar = c.loop-i.invariant.2 in
    let step = c.in-Some.ensures.steps in
    let rest = chunks_exact_rest (enumerate_source c.next.new.self) in
    let cut : drop (i * (k + 1)) t ≡ c.in-Some.row.now ++ rest = sym sofar.rest ∙ step.0.1.0 in
    let long : length c.in-Some.row.now ≡ k + 1 = step.0.1.1 ∙ sofar.size in (
      search rules,
      search rules,
      record {
        size = step.0.0 ∙ sofar.size;
        rest = rest_more (k + 1) t c.in-Some.row.now rest i cut long ∙ ap (λ (n : ℕ). drop (n * (k + 1)) t) (sym step.2);
        sofar = λ j x hj.
            below_more (λ (z : ℕ). (y : ℕ) → y < k → next k t z y < c.args.rows) i (λ z h y. sofar.sofar z y h)
            (λ y h. subst (λ (z : ℕ). z < c.args.rows) (next_in_chunk k t c.in-Some.row.now rest i y cut long h) (c.in_default.ensures y h)) j (subst (λ (z : ℕ). j < z) step.2 hj) x;
      },
    )

pub returns : goal.returns
returns c = λ i x hi.
    let sofar = c.loop-i.invariant.2 in
    let step = c.in-None.ensures.steps in
    let short : length (drop (enumerate_count c.loop-i.i-iterator * (c.args.keys + 1)) c.args.numbers.now) < c.args.keys + 1 = subst (λ (l : _). length l < c.args.keys + 1) sofar.rest (subst (λ (w : ℕ). length (chunks_exact_rest (enumerate_source c.loop-i.i-iterator)) < w) sofar.size step.0.1.0) in
    sofar.sofar i x (omega (arith, hi, no_more_rows (c.args.keys + 1) c.args.rows c.args.numbers.now (enumerate_count c.loop-i.i-iterator) c.requires.long short))
