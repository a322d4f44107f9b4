-- Where a search begins, and its two halves.
use Rattle.std.proofs.Common.{◌≡◌, ℕ, zero, suc, ◌-◌, ◌<◌, List, length, sym, refl, ap, ◌∙◌, arith}
use native.Mathlib.Decide.{ℕ_discrete}
use Rattle.machines.specs.Words.{Word}
use Rattle.areas.specs.declared.records.Record.{Record}
use Rattle.areas.specs.Layout.{Dims}
use Rattle.model.specs.Observations.{Observations, count, rows, edge_of, shown_at, cell_at, one_less, end_row, Closed}
use Rattle.model.specs.Learners.{Bisection, middle}
use Rattle.model.specs.Moves.{first_bisection, chosen, upper_half, lower_half, narrowed}
use Rattle.store.specs.Decoding.{model_of}
use Rattle.moves.specs.Holding.{Holds}
use Rattle.moves.specs.Observed.{observed_at}
use Rattle.walks.proofs.Following.{ReadAnswer, answer_read, end_inside}

chosen_yes : {P : Type 0} (t : Dec P) (a b : Bisection) → P → chosen t a b ≡ a
chosen_yes (yes p) a b h = refl
chosen_yes (no np) a b h = absurd (np h)

chosen_no : {P : Type 0} (t : Dec P) (a b : Bisection) → (P → ⊥) → chosen t a b ≡ b
chosen_no (yes p) a b h = absurd (h p)
chosen_no (no np) a b h = refl

-- Where the middle shows what the left end shows, the answers differ in the upper half.
pub upper_taken : (b : Observations) (l : Bisection) (d place : ℕ) → place ≡ middle l → shown_at b d ≡ shown_at b l.left → record { along = l.along; lo = place; hi = l.hi; left = d; right = l.right } ≡ narrowed b l d
upper_taken b l d place e h =
    (λ i. record { along = l.along; lo = e i; hi = l.hi; left = d; right = l.right })
    ∙ sym (chosen_yes (ℕ_discrete (shown_at b d) (shown_at b l.left)) (upper_half l d) (lower_half l d) h)

-- Where it shows something else, they differ in the lower half.
pub lower_taken : (b : Observations) (l : Bisection) (d place : ℕ) → place ≡ middle l → (shown_at b d ≡ shown_at b l.left → ⊥) → record { along = l.along; lo = l.lo; hi = place; left = l.left; right = d } ≡ narrowed b l d
lower_taken b l d place e h =
    (λ i. record { along = l.along; lo = l.lo; hi = e i; left = l.left; right = d })
    ∙ sym (chosen_no (ℕ_discrete (shown_at b d) (shown_at b l.left)) (upper_half l d) (lower_half l d) h)

less_one : (x : ℕ) → x - 1 ≡ one_less x
less_one zero = refl
less_one (suc x) = omega arith

-- The two ends of an answer's word, as they are read.
pub begins_at : (w : List ℕ) (d : Dims) (along n row edge right : ℕ) (r : Record) (rest : Word) → Holds w d → Closed d.keys d.most (observed_at w d) (model_of w d).successors → along < count (observed_at w d) → ReadAnswer w d along r rest → n ≡ length rest → row ≡ end_row d.keys (observed_at w d) (model_of w d).successors along → (row < rows (observed_at w d) → edge ≡ edge_of (observed_at w d) row) → right ≡ cell_at d.most (observed_at w d) edge 0 - 1
    → record { along = along; lo = 0; hi = n; left = along; right = right } ≡ first_bisection d.keys d.most (observed_at w d) (model_of w d).successors along
begins_at w d along n row edge right r rest h closed l read long q e last =
    let b = observed_at w d in
    let hi = long ∙ ap length (answer_read w d along r rest h l read).1 in
    let there = e (omega (arith, q, end_inside w d along h closed l)) ∙ ap (edge_of b) q in
    let ends = last ∙ ap (λ (u : ℕ). cell_at d.most b u 0 - 1) there ∙ less_one (cell_at d.most b (edge_of b (end_row d.keys b (model_of w d).successors along)) 0) in
    λ i. record { along = along; lo = 0; hi = hi i; left = along; right = ends i }
