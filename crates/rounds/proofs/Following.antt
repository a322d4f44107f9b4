-- One step of a round after another.
use mathlib.Core.Path.{◌≡◌, ap, subst, sym}
use mathlib.Core.Bool.{Bool}
use mathlib.Core.List.{List}
use Prim.Native.Nat.{ℕ, ◌+◌, ◌<◌, ◌≤◌}
use native.Mathlib.Omega.{arith}
use Rattle.areas.specs.Layout.{Dims}
use Rattle.model.specs.Observations.{Observations, rows, edges_used, Closed}
use Rattle.model.specs.Moves.{OtherThanRows}
use Rattle.model.specs.Models.{view_model}
use Rattle.store.specs.Decoding.{model_of}
use Rattle.moves.specs.Holding.{Holds, Turned, Grown, Rounded}
use Rattle.moves.specs.Observed.{observed_at}
use Rattle.moves.proofs.Holding.{turned_none, turned_then, turned_holds, rounded_after}
use Rattle.closing.specs.Leading.{FullTable, AllLed, Stray, Strays}
use Rattle.closing.proofs.Led.{led_observed, led_turned, led_full}
use Rattle.closing.proofs.Held.{rows_few}
use Rattle.filling.specs.Filled.{Filling, AllFilled}
use Rattle.filling.proofs.Joining.{still_filling}
use Rattle.rounds.specs.Readiness.{ClosedTable, Unsettled}

-- An edge that is like no row is what the next step is about.
pub stray_rounds : (w w₁ w' : List ℕ) (d : Dims) (u : ℕ) (more : Bool) → FullTable w d → Stray w w₁ d u → (Strays w₁ d u → Rounded w₁ w' d more) → Rounded w w' d more
stray_rounds w w₁ w' d u more t s goes =
    let same = led_observed s.led in
    let t₁ = led_full t s.led in
    let there : Strays w₁ d u = record {
      holds = t₁.holds;
      phase = t₁.phase;
      edge_in = subst (λ (b : Observations). u < edges_used d.keys b) (sym same) s.edge_in;
      other = subst (λ (b : Observations). OtherThanRows d.most b u) (sym same) s.other;
    } in
    rounded_after w w₁ w' d more (led_turned t s.led) (ap rows same) (goes there)

-- A table of which each edge leads to a row is what the next step is about.
pub led_rounds : (w w₁ w' : List ℕ) (d : Dims) (more : Bool) → FullTable w d → AllLed w w₁ d → (ClosedTable w₁ d → Rounded w₁ w' d more) → Rounded w w' d more
led_rounds w w₁ w' d more t s goes =
    let same = led_observed s.led in
    let there : ClosedTable w₁ d = record { table = led_full t s.led; closed = subst (λ (b : Observations). Closed d.keys d.most b (model_of w₁ d).successors) (sym same) s.closed } in
    rounded_after w w₁ w' d more (led_turned t s.led) (ap rows same) (goes there)

-- A table that was filled is what the next step is about.
pub filled_rounds : (w w₁ w' : List ℕ) (d : Dims) (more : Bool) → Filling w d → AllFilled w w₁ d → (FullTable w₁ d → Rounded w₁ w' d more) → Rounded w w' d more
filled_rounds w w₁ w' d more f s goes =
    let still = still_filling f s.fills in
    rounded_after w w₁ w' d more s.fills.turned s.fills.as_many_rows (goes (record { holds = still.holds; phase = still.phase; full = s.full }))

-- Rounds so far: nothing that others see has changed, and there are more rows than rounds.
pub record SoFar (w w₁ : List ℕ) (d : Dims) (i : ℕ) : Type 0 where
  pub turned : Turned w w₁ d (view_model (model_of w d))
  pub going : Unsettled (model_of w₁ d).phase
  pub more : i < rows (observed_at w₁ d)

-- So many rounds: each added a row to a learner that can go on, and any other is as it was.
pub record TurnsMade (w w₁ : List ℕ) (d : Dims) (i : ℕ) : Type 0 where
  pub moved : Holds w d → Unsettled (model_of w d).phase → SoFar w w₁ d i
  pub kept : (Unsettled (model_of w d).phase → ⊥) → w₁ ≡ w

pub none_so_far : (w : List ℕ) (d : Dims) → Holds w d → Unsettled (model_of w d).phase → SoFar w w d 0
none_so_far w d h u = record { turned = turned_none h; going = u; more = h.valid.valid.formed.limits.rows_least }

pub one_more : (w w₁ w' : List ℕ) (d : Dims) (i : ℕ) → SoFar w w₁ d i → Grown w₁ w' d → SoFar w w' d (i + 1)
one_more w w₁ w' d i s g = record {
  turned = turned_then s.turned (subst (Turned w₁ w' d) s.turned.is g.turned);
  going = subst Unsettled (sym g.phase) tt;
  more = omega (arith, s.more, g.more);
}

-- There are no more rounds than there may be states.
pub no_more : (w w₁ : List ℕ) (d : Dims) (i : ℕ) → Holds w d → SoFar w w₁ d i → d.most ≤ i → ⊥
no_more w w₁ d i h s l = omega (arith, s.more, rows_few w₁ d (turned_holds h s.turned))
