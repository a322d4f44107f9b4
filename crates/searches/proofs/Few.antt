-- How many answers a valid learner has, and how many of them it got in searches.
use Rattle.std.proofs.Common.{ℕ, suc, ◌*◌, ◌^◌, ◌<◌, ◌≤◌, List, length, mul-le-mul, arith}
use Rattle.areas.specs.Layout.{Dims}
use Rattle.model.specs.Bits.{bits}
use Rattle.model.specs.Observations.{rows}
use Rattle.model.specs.Models.{Model, ValidModel, learner_of, observed_in}
use Rattle.model.proofs.Digits.{digits}
use Rattle.model.proofs.Outcomes.{answers_few}
use Rattle.model.proofs.Spans.{entries_long}
use Rattle.store.specs.Decoding.{model_of}
use Rattle.moves.proofs.Standing.{log_few}

-- Few answers, and few of them got in searches.
pub record Few (m : Model) : Type 0 where
  pub answers : length m.page.entries ≤ 67176448
  pub bisected : m.bisected ≤ 65536

-- A valid learner has few answers.
pub few_of : (w : List ℕ) (d : Dims) → length w < 2 ^ 64 → ValidModel (model_of w d) → Few (model_of w d)
few_of w d h v =
    let m = model_of w d in
    let limits = v.valid.formed.limits in
    let few : bits (length m.page.log) ≤ 64 = digits 64 (length m.page.log) (omega (arith, log_few w d)) in
    let keys = mul-le-mul {n₁ = m.most} {m₁ = m.keys} {n₂ = 1024} {m₂ = 64} limits.most_most limits.keys_most in
    let edges : suc (m.most * m.keys) ≤ 65537 = omega arith in
    let cells = mul-le-mul {n₁ = suc (m.most * m.keys)} {m₁ = m.most} {n₂ = 65537} {m₂ = 1024} edges limits.most_most in
    let halved = mul-le-mul {n₁ = m.most} {m₁ = bits (length m.page.log)} {n₂ = 1024} {m₂ = 64} limits.most_most few in
    let rows_few : rows (observed_in m) ≤ 1024 = omega (arith, limits.rows_most, limits.most_most) in
    let all = answers_few (learner_of m) v.valid in
    record {
      answers = omega (arith, all.answers, all.refutes, limits.most_most, entries_long m.page);
      bisected = omega (arith, v.valid.counted.halved, mul-le-mul {n₁ = rows (observed_in m)} {m₁ = bits (length m.page.log)} {n₂ = 1024} {m₂ = 64} rows_few few);
    }
