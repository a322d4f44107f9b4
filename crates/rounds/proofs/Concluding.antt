-- A table is shown, or a search begins.
use mathlib.Core.Path.{◌≡◌, ap, subst, ◌∙◌}
use mathlib.Core.Bool.{Bool}
use mathlib.Core.List.{List}
use Prim.Native.Nat.{ℕ}
use Rattle.areas.specs.Layout.{Dims}
use Rattle.model.specs.Observations.{rows, table_of}
use Rattle.model.specs.Learners.{Bisection, shows_table, bisecting}
use Rattle.model.specs.Moves.{first_bisection}
use Rattle.model.specs.Models.{Model, observed_in, model_in}
use Rattle.model.proofs.Paging.{model_shows, model_starts_bisection}
use Rattle.store.specs.Decoding.{model_of}
use Rattle.moves.specs.Changes.{last_shown}
use Rattle.moves.specs.Holding.{Holds, Settles, Rounded}
use Rattle.moves.specs.Making.{Makes, ChangesBy}
use Rattle.moves.specs.Observed.{observed_at}
use Rattle.moves.proofs.Standing.{makes_by_then}
use Rattle.moves.proofs.Holding.{turned_by, turned_holds, settles_shown, rounded_after}
use Rattle.walks.specs.Agreeing.{WrongFirst}
use Rattle.rounds.specs.Readiness.{ClosedTable, AgreeingTable}

-- The two writes by which a table is shown.
pub table_shown : (w w₁ w' : List ℕ) (d : Dims) (r : ℕ) → AgreeingTable w d → r ≡ rows (observed_at w d) → ChangesBy w w₁ d (λ m. last_shown m r) → ChangesBy w₁ w' d (λ m. model_in m shows_table) → Settles w w' d
unfolding model_of
table_shown w w₁ w' d r t q counted entered =
    let m = model_of w d in
    let held = t.table.holds in
    let first = counted held.long in
    let made = makes_by_then (λ z. model_in z shows_table) first (entered (first.moves.long ∙ held.long)) in
    let shows = model_shows m held.valid t.table.phase t.table.full t.closed t.agreed in
    settles_shown (rows (observed_in m)) (table_of d.keys d.most (observed_in m) m.successors)
    (turned_by (subst (Makes w w' d) (ap (λ (z : ℕ). model_in (last_shown m z) shows_table) q) made) shows.0) shows.1

-- A search begins, and goes on.
pub search_rounds : (w w₁ w' : List ℕ) (d : Dims) (z : ℕ) (s : Bisection) (more : Bool) → ClosedTable w d → WrongFirst w d z → s ≡ first_bisection d.keys d.most (observed_at w d) (model_of w d).successors z → ChangesBy w w₁ d (λ m. model_in m (bisecting s)) → (Holds w₁ d → (model_of w₁ d).phase ≡ bisecting s → Rounded w₁ w' d more) → Rounded w w' d more
unfolding model_of
search_rounds w w₁ w' d z s more t wrong is entered goes =
    let m = model_of w d in
    let held = t.table.holds in
    let made = entered held.long in
    let turned = turned_by (subst (λ (l : Bisection). Makes w w₁ d (model_in m (bisecting l))) is made) (model_starts_bisection m z held.valid t.table.phase t.table.full t.closed wrong.answer_in wrong.wrong) in
    rounded_after w w₁ w' d more turned (ap (λ (x : Model). rows (observed_in x)) made.moves.model) (goes (turned_holds held turned) (ap (λ (x : Model). x.phase) made.moves.model))
