-- Phases in the header: how one is read, and what entering one makes of the model.
use Rattle.std.proofs.Common.{◌≡◌, ℕ, zero, suc, ◌<◌, ◌≤◌, Bool, true, ◌&&◌, ltb, List, length, get_or, set, refl, ap, ◌∙◌, arith, lit<}
use Rattle.std.proofs.lemmas.Bool.{and_parts, ltb-true}
use Rattle.std.proofs.lemmas.List.{length-set, get_or-set_same, get_or-set_other}
use Rattle.areas.specs.declared.area.Area.{Area}
use Rattle.areas.specs.declared.area.Area.TheVariants.{Header, Successors}
use Rattle.areas.specs.Words.{wide, set_wide}
use Rattle.areas.specs.Layout.{Dims, area_of, Limits}
use Rattle.areas.specs.Frames.{Rewritten, Saved}
use Rattle.areas.proofs.Pairs.{length-set_wide, get_or-set_wide, wide_set_wide, wide_set_wide_other}
use Rattle.model.specs.Learners.{Phase, broken, Bisection}
use Rattle.model.specs.Models.{model_in}
use Rattle.store.specs.Decoding.{phase_by, search_in, phase_in, model_of}
use Rattle.moves.specs.declared.phase.Search.{Search}
use Rattle.moves.specs.Making.{Makes}
use Rattle.moves.specs.Phases.{search_value, set_search}
use Rattle.moves.proofs.Staying.{Stays, area_but, area_other, shape_words, page_words, page_areas, other_words, word_stays, stays_then, header_long, word_written, page_stays, search_stays, model_by, makes, fits_still}

-- A phase read by its number.
pub phase_from : (w : List ℕ) (d : Dims) (n : ℕ) (f : Phase) → n ≡ get_or (area_of w d Header) 11 0 → f ≡ phase_by n (get_or (area_of w d Header) 12 0) (get_or (area_of w d Header) 13 0) (search_in (area_of w d Header)) → f ≡ (model_of w d).phase
unfolding model_of
phase_from w d n f e h =
    h ∙ ap (λ (z : ℕ). phase_by z (get_or (area_of w d Header) 12 0) (get_or (area_of w d Header) 13 0) (search_in (area_of w d Header))) e

-- Past the last number there is one phase.
pub phase_past : (n a b : ℕ) (l : Bisection) → 6 ≤ n → phase_by n a b l ≡ broken
phase_past zero a b l h = absurd (omega arith)
phase_past (suc zero) a b l h = absurd (omega arith)
phase_past (suc (suc zero)) a b l h = absurd (omega arith)
phase_past (suc (suc (suc zero))) a b l h = absurd (omega arith)
phase_past (suc (suc (suc (suc zero)))) a b l h = absurd (omega arith)
phase_past (suc (suc (suc (suc (suc zero))))) a b l h = absurd (omega arith)
phase_past (suc (suc (suc (suc (suc (suc n)))))) a b l h = refl

-- The words before a search stay where one is written.
pub search_front : (h : List ℕ) (s : Search) (j : ℕ) → j < 12 → get_or (set_search h s) j 0 ≡ get_or h j 0
unfolding set_search
search_front h s j l =
    let x = set h 12 s.along in
    let y = set x 13 s.left in
    let z = set y 14 s.right in
    get_or-set_wide (set_wide z 16 s.low) 18 j s.high (omega arith) (omega arith)
    ∙ get_or-set_wide z 16 j s.low (omega arith) (omega arith)
    ∙ get_or-set_other y 14 j s.right 0 (omega arith)
    ∙ get_or-set_other x 13 j s.left 0 (omega arith)
    ∙ get_or-set_other h 12 j s.along 0 (omega arith)

-- A search that was written is read back.
pub search_back : (h : List ℕ) (s : Search) → length h ≡ 64 → search_in (set_search h s) ≡ search_value s
unfolding set_search
search_back h s e =
    let x = set h 12 s.along in
    let y = set x 13 s.left in
    let z = set y 14 s.right in
    let l = set_wide z 16 s.low in
    let long_x : length x ≡ 64 = length-set h 12 s.along ∙ e in
    let long_y : length y ≡ 64 = length-set x 13 s.left ∙ long_x in
    let long_z : length z ≡ 64 = length-set y 14 s.right ∙ long_y in
    let long_l : length l ≡ 64 = length-set_wide z 16 s.low ∙ long_z in
    let front : (j : ℕ) → j < 15 → get_or (set_wide l 18 s.high) j 0 ≡ get_or z j 0 = λ j p.
    get_or-set_wide l 18 j s.high (omega arith) (omega arith) ∙ get_or-set_wide z 16 j s.low (omega arith) (omega arith) in
    let along : get_or (set_wide l 18 s.high) 12 0 ≡ s.along = front 12 (lit< tt) ∙ get_or-set_other y 14 12 s.right 0 (omega arith) ∙ get_or-set_other x 13 12 s.left 0 (omega arith) ∙ get_or-set_same h 12 s.along 0 (omega arith) in
    let left : get_or (set_wide l 18 s.high) 13 0 ≡ s.left = front 13 (lit< tt) ∙ get_or-set_other y 14 13 s.right 0 (omega arith) ∙ get_or-set_same x 13 s.left 0 (omega arith) in
    let right : get_or (set_wide l 18 s.high) 14 0 ≡ s.right = front 14 (lit< tt) ∙ get_or-set_same y 14 s.right 0 (omega arith) in
    let low : wide (set_wide l 18 s.high) 16 ≡ s.low = wide_set_wide_other l 16 18 s.high (omega arith) (omega arith) (omega arith) ∙ wide_set_wide z 16 s.low (omega arith) in
    let high : wide (set_wide l 18 s.high) 18 ≡ s.high = wide_set_wide l 18 s.high (omega arith) in
    λ i. record { along = along i; lo = low i; hi = high i; left = left i; right = right i }

search_words_stay : (w w' : List ℕ) (d : Dims) (s : Search) → Rewritten w w' d Header (set_search (area_of w d Header) s) → Stays w w' d (λ j. ltb j 12) (area_but Header)
search_words_stay w w' d s f = record {
  word = λ j h. ap (λ (z : List ℕ). get_or z j 0) f.here ∙ search_front (area_of w d Header) s j (ltb-true j 12 h);
  area = λ b h. f.others b (area_other Header b h);
  long = f.long;
}

-- A phase is entered by words of the header behind the counters.
entered : {w w' : List ℕ} {d : Dims} {k : ℕ → Bool} {a : Area → Bool} (f : Phase) → Stays w w' d k a → shape_words k ≡ true → page_words k ≡ true → other_words k ≡ true → page_areas a ≡ true → a Successors ≡ true → phase_in (area_of w' d Header) ≡ f → Makes w w' d (model_in (model_of w d) f)
unfolding model_of
entered {w = w} {w' = w'} {d = d} {k = k} f s shape page others areas successors e =
    let h6 = and_parts (k 5) (k 6 && k 7) (and_parts (k 4) (k 5 && (k 6 && k 7)) (and_parts (k 3) (k 4 && (k 5 && (k 6 && k 7))) page).1).1 in
    let h7 = and_parts (k 6) (k 7) h6.1 in
    let h8 = and_parts (k 8) (k 9 && k 10) others in
    let h9 = and_parts (k 9) (k 10) h8.1 in
    makes (model_in (model_of w d) f) s shape (fits_still s h7.0 h7.1)
    (model_by w' d (model_in (model_of w d) f) refl refl (page_stays s page areas) (s.area Successors successors) (s.word 8 h8.0) (s.word 9 h9.0) (s.word 10 h9.1) e)

-- A phase without numbers.
pub enters_plain : (w w' : List ℕ) (d : Dims) (n : ℕ) (f : Phase) → Limits d → length w ≡ d.length → ((a b : ℕ) (l : Bisection) → phase_by n a b l ≡ f) → Saved w w' d Header 11 n → Makes w w' d (model_in (model_of w d) f)
enters_plain w w' d n f l e is s =
    let h = area_of w' d Header in
    let code : get_or h 11 0 ≡ n = word_written w w' d 11 n l e (lit< tt) s in
    entered f (word_stays w w' d 11 n s) refl refl refl refl refl
    (ap (λ (z : ℕ). phase_by z (get_or h 12 0) (get_or h 13 0) (search_in h)) code ∙ is (get_or h 12 0) (get_or h 13 0) (search_in h))

-- A phase with one number.
pub enters_one : (w w₁ w' : List ℕ) (d : Dims) (n u : ℕ) (f : Phase) → Limits d → length w ≡ d.length → ((b : ℕ) (l : Bisection) → phase_by n u b l ≡ f) → Saved w w₁ d Header 12 u → Saved w₁ w' d Header 11 n → Makes w w' d (model_in (model_of w d) f)
enters_one w w₁ w' d n u f l e is s t =
    let h = area_of w' d Header in
    let then = word_stays w₁ w' d 11 n t in
    let code : get_or h 11 0 ≡ n = word_written w₁ w' d 11 n l (s.long ∙ e) (lit< tt) t in
    let first : get_or h 12 0 ≡ u = then.word 12 refl ∙ word_written w w₁ d 12 u l e (lit< tt) s in
    entered f (stays_then (word_stays w w₁ d 12 u s) then) refl refl refl refl refl
    ((λ i. phase_by (code i) (first i) (get_or h 13 0) (search_in h)) ∙ is (get_or h 13 0) (search_in h))

-- A phase with two numbers.
pub enters_two : (w w₁ w₂ w' : List ℕ) (d : Dims) (n u v : ℕ) (f : Phase) → Limits d → length w ≡ d.length → ((l : Bisection) → phase_by n u v l ≡ f) → Saved w w₁ d Header 12 u → Saved w₁ w₂ d Header 13 v → Saved w₂ w' d Header 11 n → Makes w w' d (model_in (model_of w d) f)
enters_two w w₁ w₂ w' d n u v f l e is s t r =
    let h = area_of w' d Header in
    let then = word_stays w₁ w₂ d 13 v t in
    let at_last = word_stays w₂ w' d 11 n r in
    let code : get_or h 11 0 ≡ n = word_written w₂ w' d 11 n l (t.long ∙ s.long ∙ e) (lit< tt) r in
    let first : get_or h 12 0 ≡ u = at_last.word 12 refl ∙ then.word 12 refl ∙ word_written w w₁ d 12 u l e (lit< tt) s in
    let second : get_or h 13 0 ≡ v = at_last.word 13 refl ∙ word_written w₁ w₂ d 13 v l (s.long ∙ e) (lit< tt) t in
    entered f (stays_then (word_stays w w₁ d 12 u s) (stays_then then at_last)) refl refl refl refl refl
    ((λ i. phase_by (code i) (first i) (second i) (search_in h)) ∙ is (search_in h))

-- A phase with a search.
pub enters_search : (w w₁ w' : List ℕ) (d : Dims) (n : ℕ) (z : Search) (f : Phase) → Limits d → length w ≡ d.length → ((a b : ℕ) → phase_by n a b (search_value z) ≡ f) → Rewritten w w₁ d Header (set_search (area_of w d Header) z) → Saved w₁ w' d Header 11 n → Makes w w' d (model_in (model_of w d) f)
enters_search w w₁ w' d n z f l e is s t =
    let h = area_of w' d Header in
    let then = word_stays w₁ w' d 11 n t in
    let code : get_or h 11 0 ≡ n = word_written w₁ w' d 11 n l (s.long ∙ e) (lit< tt) t in
    let found : search_in h ≡ search_value z = search_stays then refl ∙ ap search_in s.here ∙ search_back (area_of w d Header) z (header_long w d l e) in
    entered f (stays_then (search_words_stay w w₁ d z s) then) refl refl refl refl refl
    ((λ i. phase_by (code i) (get_or h 12 0) (get_or h 13 0) (found i)) ∙ is (get_or h 12 0) (get_or h 13 0))
