-- What holds of a learner that could be in a search.
use Rattle.std.proofs.Common.{◌≡◌, ℕ, ◌+◌, ◌<◌, ◌≤◌, List, Some, Option, sym, refl, ap, ◌∙◌, subst, arith}
use Rattle.machines.specs.Words.{Word}
use Rattle.areas.specs.declared.records.Record.{Record}
use Rattle.areas.specs.Layout.{Dims}
use Rattle.model.specs.Observations.{word_at, mixed_at}
use Rattle.model.specs.Learners.{middle, bisecting, Bisects}
use Rattle.model.specs.Pages.{observations_of}
use Rattle.model.specs.Models.{ValidModel, model_in}
use Rattle.model.proofs.Paging.{model_narrows}
use Rattle.store.specs.Decoding.{page_of, model_of}
use Rattle.moves.specs.declared.phase.Search.{Search}
use Rattle.moves.specs.Holding.{Holds}
use Rattle.moves.specs.Observed.{observed_at}
use Rattle.moves.specs.Phases.{search_value}
use Rattle.moves.proofs.Holding.{as_dims, as_model}
use Rattle.lookup.specs.Named.{Named, AllNamed, named_word, AnswerTo}
use Rattle.lookup.proofs.Held.{of_page, holds_named}
use Rattle.walks.specs.Along.{PlaceIn, Mixed}
use Rattle.searches.specs.Searching.{Halves, Searching, Between}

-- The search that a learner is in.
pub searching : (w : List ℕ) (d : Dims) (s : Search) → Holds w d → (model_of w d).phase ≡ bisecting (search_value s) → Searching w d s
searching w d s h p = record { held = h; valid = subst (λ z. ValidModel (model_in (model_of w d) z)) p h.valid }

-- The answers at the ends of the search differ.
pub searched : (w : List ℕ) (d : Dims) (s : Search) → Searching w d s → Bisects d.keys d.most (observed_at w d) (model_of w d).successors (model_of w d).bisected (search_value s)
searched w d s h = as_dims w d (λ k n. Bisects k n (observed_at w d) (model_of w d).successors (model_of w d).bisected (search_value s)) h.valid.valid.phased

-- The middle is a place along the answer.
pub middle_in : (w : List ℕ) (d : Dims) (s : Search) → Searching w d s → s.low + 1 < s.high → PlaceIn w d s.along (middle (search_value s))
middle_in w d s h wide =
    let x = searched w d s h in
    record { held = h.held; answer_in = x.along_in; some = omega arith; within = omega (arith, x.within) }

-- The answer that is found to the word that is spelt is that to the middle's word.
pub between : (w : List ℕ) (d : Dims) (s : Search) (place : ℕ) (r : Record) (word : Word) (told : Option ℕ) → (s.low ≤ s.high → place ≡ middle (search_value s)) → Mixed w d s.along place 0 r → (Named (page_of w d) r → word ≡ named_word (page_of w d) r) → (AllNamed w d → AnswerTo (observations_of (page_of w d)) word told) → Between w d s told
between w d s place r word told here mixes spells finds h wide =
    let x = searched w d s h in
    let at = middle_in w d s h wide in
    let is = here (omega arith) in
    let mixed = mixes (subst (PlaceIn w d s.along) (sym is) at) x.closed in
    subst (λ (v : Word). AnswerTo (observed_at w d) v told)
    (spells mixed.named ∙ mixed.word ∙ ap (mixed_at d.keys (observed_at w d) (model_of w d).successors s.along) is)
    (of_page w d (λ p. AnswerTo (observations_of p) word told) (finds (holds_named w d h.held)))

-- With an answer to the middle's word the learner could be in one half of the search.
pub halved : (w : List ℕ) (d : Dims) (s r : Search) (told : ℕ) → Searching w d s → s.low + 1 < s.high → Between w d s (Some told) → Halves w d s told r → Searching w d r
halved w d s r told h wide finds halves =
    let x = searched w d s h in
    let found = finds h wide in
    let l = search_value s in
    let word = as_model w d (λ k n. word_at (observed_at w d) told ≡ mixed_at k (observed_at w d) (model_of w d).successors l.along (middle l)) found.1 in
    let next = (model_narrows (model_in (model_of w d) (bisecting l)) l told h.valid refl wide found.0 word).valid in
    record {
      held = h.held;
      valid = subst (λ z. ValidModel (model_in (model_of w d) (bisecting z))) (sym (halves (record { told_in = found.0; left_in = x.left_in; order = omega arith }))) next;
    }
