-- What the table shows after a word.
use Rattle.std.proofs.Common.{◌≡◌, ℕ, ◌<◌, List, Option, sym, ap, ◌∙◌, arith}
use Rattle.areas.specs.Layout.{Dims, Limits}
use Rattle.machines.specs.Tables.{shows}
use Rattle.machines.specs.Words.{Word}
use Rattle.model.specs.Observations.{rows, edge_of, seen, one_less, leads_to}
use Rattle.model.specs.Learners.{Phase, hypothesis_in}
use Rattle.model.specs.Models.{view_model}
use Rattle.model.proofs.Filling.{phase_at}
use Rattle.model.proofs.Hypotheses.{shows_word, leads_inside}
use Rattle.store.specs.Decoding.{model_of}
use Rattle.moves.specs.Observed.{observed_at, seen_value, SeenIn}
use Rattle.closing.proofs.Held.{holds_cells_named}
use Rattle.refuting.specs.Showing.{ShowsWord}

module _ (w : List ℕ) (d : Dims) (word : Word) (s : ShowsWord w d word) where
  -- A word leads to a row.
  pub row_after_in : leads_to d.keys (model_of w d).successors 0 word < rows (observed_at w d)
  unfolding model_of
  row_after_in =
      let v = s.holds.valid.valid in
      leads_inside v.formed (model_of w d).successors (phase_at v s.shown).closed 0 word v.formed.limits.rows_least s.of_keys

  -- The table shows what is seen in the row that the word leads to.
  pub shown_there : shows d.keys (view_model (model_of w d)).hypothesis word ≡ one_less (seen d.most (observed_at w d) (edge_of (observed_at w d) (leads_to d.keys (model_of w d).successors 0 word)) 0)
  unfolding model_of
  shown_there =
      let m = model_of w d in
      let v = s.holds.valid.valid in
      ap (λ (p : Phase). shows d.keys (hypothesis_in d.keys d.most (observed_at w d) m.successors p) word) s.shown
      ∙ shows_word v.formed m.successors (phase_at v s.shown).closed word s.of_keys

  -- What is read of the row's cell is what the table shows.
  pub shown_read : (row edge : ℕ) (r : Option ℕ) → Limits d → row ≡ leads_to d.keys (model_of w d).successors 0 word → (row < rows (observed_at w d) → edge ≡ edge_of (observed_at w d) row) → SeenIn w d edge 0 r → one_less (seen_value r) ≡ shows d.keys (view_model (model_of w d)).hypothesis word
  shown_read row edge r l e f g =
      let b = observed_at w d in
      let is : edge ≡ edge_of b (leads_to d.keys (model_of w d).successors 0 word) = f (omega (arith, e, row_after_in)) ∙ ap (edge_of b) e in
      ap one_less (g (holds_cells_named w d l s.holds edge 0) ∙ ap (λ (z : ℕ). seen d.most b z 0) is) ∙ sym shown_there
