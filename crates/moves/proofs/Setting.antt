-- Writes of one counter and of a successor, as moves.
use Rattle.std.proofs.Common.{◌≡◌, ℕ, List, length, set, refl, lit<}
use Rattle.areas.specs.declared.area.Area.TheVariants.{Header, Successors}
use Rattle.areas.specs.Layout.{Dims, area_of, Limits}
use Rattle.areas.specs.Frames.{Saved}
use Rattle.store.specs.Decoding.{model_of}
use Rattle.moves.specs.Making.{Makes}
use Rattle.moves.specs.Changes.{leading_by, bisected_by, refuted_times, last_shown}
use Rattle.moves.proofs.Staying.{word_stays, areas_stay, word_written, page_stays, phase_stays, model_by, makes, fits_still}

pub bisected_set : (w w' : List ℕ) (d : Dims) (v : ℕ) → Limits d → length w ≡ d.length → Saved w w' d Header 8 v → Makes w w' d (bisected_by (model_of w d) v)
unfolding model_of
bisected_set w w' d v l e s =
    let t = word_stays w w' d 8 v s in
    makes (bisected_by (model_of w d) v) t refl (fits_still t refl refl)
    (model_by w' d (bisected_by (model_of w d) v) refl refl (page_stays t refl refl) (t.area Successors refl) (word_written w w' d 8 v l e (lit< tt) s) (t.word 9 refl) (t.word 10 refl) (phase_stays t refl))

pub refutes_set : (w w' : List ℕ) (d : Dims) (v : ℕ) → Limits d → length w ≡ d.length → Saved w w' d Header 9 v → Makes w w' d (refuted_times (model_of w d) v)
unfolding model_of
refutes_set w w' d v l e s =
    let t = word_stays w w' d 9 v s in
    makes (refuted_times (model_of w d) v) t refl (fits_still t refl refl)
    (model_by w' d (refuted_times (model_of w d) v) refl refl (page_stays t refl refl) (t.area Successors refl) (t.word 8 refl) (word_written w w' d 9 v l e (lit< tt) s) (t.word 10 refl) (phase_stays t refl))

pub last_set : (w w' : List ℕ) (d : Dims) (v : ℕ) → Limits d → length w ≡ d.length → Saved w w' d Header 10 v → Makes w w' d (last_shown (model_of w d) v)
unfolding model_of
last_set w w' d v l e s =
    let t = word_stays w w' d 10 v s in
    makes (last_shown (model_of w d) v) t refl (fits_still t refl refl)
    (model_by w' d (last_shown (model_of w d) v) refl refl (page_stays t refl refl) (t.area Successors refl) (t.word 8 refl) (t.word 9 refl) (word_written w w' d 10 v l e (lit< tt) s) (phase_stays t refl))

pub successor_set : (w w' : List ℕ) (d : Dims) (u v : ℕ) → Saved w w' d Successors u v → Makes w w' d (leading_by (model_of w d) (set (model_of w d).successors u v))
unfolding model_of
successor_set w w' d u v s =
    let t = areas_stay w w' d Successors (set (area_of w d Successors) u v) refl s in
    let m = leading_by (model_of w d) (set (model_of w d).successors u v) in
    makes m t refl (fits_still t refl refl)
    (model_by w' d m refl refl (page_stays t refl refl) s.here (t.word 8 refl) (t.word 9 refl) (t.word 10 refl) (phase_stays t refl))
