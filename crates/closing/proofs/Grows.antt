-- An edge that differs from all rows becomes a row, or shows that the box is larger.
use Rattle.std.proofs.Common.{◌≡◌, ℕ, ◌<◌, ◌≤◌, List, [], ◌∷◌, refl, ap, ◌∙◌, subst, arith}
use Rattle.std.proofs.lemmas.List.{length-append}
use Rattle.areas.specs.Layout.{Dims}
use Rattle.model.specs.Observations.{rows, edge_word}
use Rattle.model.specs.Learners.{larger}
use Rattle.model.specs.Pages.{add_row}
use Rattle.model.specs.Models.{Model, ModelAs, view_model, observed_in, model_in, model_filling}
use Rattle.model.proofs.Paging.{model_adds_row, model_too_many}
use Rattle.store.specs.Decoding.{model_of}
use Rattle.moves.specs.Additions.{RowAdded}
use Rattle.moves.specs.Holding.{Grown, Settles, too_many}
use Rattle.moves.specs.Making.{Makes, ChangesBy}
use Rattle.moves.specs.Observed.{observed_at, page_at}
use Rattle.moves.proofs.Standing.{edge_stands}
use Rattle.moves.proofs.Holding.{turned_by, turned_at, on_filling}
use Rattle.closing.specs.Leading.{Strays}
use Rattle.closing.proofs.Held.{rows_few}

-- The page with one row more, for as many keys.
page_grown : (w : List ℕ) (d : Dims) (u : ℕ) → model_filling (model_of w d) (add_row d.keys (page_at w d) u) ≡ model_filling (model_of w d) (add_row (model_of w d).keys (page_at w d) u)
unfolding model_of
page_grown w d u = refl

-- The model with one row more is valid.
row_added_as : (w : List ℕ) (d : Dims) (u : ℕ) → Strays w d u → rows (observed_at w d) < d.most → ModelAs (model_filling (model_of w d) (add_row (model_of w d).keys (page_at w d) u)) (view_model (model_of w d))
unfolding model_of
row_added_as w d u s h = model_adds_row (model_of w d) u s.holds.valid s.phase s.edge_in s.other h

-- The model that says that the box is larger is valid.
larger_as : (w : List ℕ) (d : Dims) (u : ℕ) → Strays w d u → rows (observed_at w d) ≡ d.most → ModelAs (model_in (model_of w d) (larger u)) (view_model (model_of w d))
unfolding model_of
larger_as w d u s h = model_too_many (model_of w d) u s.holds.valid s.phase s.edge_in s.other h

-- A write of one row more.
pub row_grown : (w w' : List ℕ) (d : Dims) (u : ℕ) → Strays w d u → rows (observed_at w d) < d.most → RowAdded w w' d u → Grown w w' d
row_grown w w' d u s h added =
    let m = model_of w d in
    let made = subst (Makes w w' d) (on_filling m (add_row d.keys m.page u) s.phase ∙ page_grown w d u) (added (edge_stands w d u s.holds.long s.holds.valid s.edge_in) h) in
    record {
      turned = turned_by made (row_added_as w d u s h);
      phase = ap (λ (z : Model). z.phase) made.moves.model;
      more = ap (λ (z : Model). rows (observed_in z)) made.moves.model ∙ length-append m.page.access (edge_word m.keys (observed_in m) u ∷ []) ∙ omega arith;
    }

-- A write that says that the box is larger.
pub found_larger : (w w' : List ℕ) (d : Dims) (u : ℕ) → Strays w d u → d.most ≤ rows (observed_at w d) → ChangesBy w w' d (λ m. model_in m (larger u)) → Settles w w' d
found_larger w w' d u s h entered =
    let all : rows (observed_at w d) ≡ d.most = omega (arith, h, rows_few w d s.holds) in
    let turned = turned_by (entered s.holds.long) (larger_as w d u s all) in
    record { turned = turned_at turned; settled = too_many u (ap (λ (z : Model). z.phase) (entered s.holds.long).moves.model) turned.is }
