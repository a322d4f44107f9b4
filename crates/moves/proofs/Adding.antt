-- Additions to the page, as moves.
use Rattle.std.proofs.Common.{◌≡◌, ℕ, suc, ◌+◌, ◌*◌, ◌<◌, ◌≤◌, List, [], ◌∷◌, ◌++◌, length, get_or, take, set, refl, ap, ◌∙◌, add-one, arith, lit<}
use Rattle.areas.specs.declared.area.Area.TheVariants.{Header, Cells, Suffixes, Answers, Letters}
use Rattle.areas.specs.declared.records.Record.{Record}
use Rattle.areas.specs.declared.spans.Span as stored
use Rattle.areas.specs.Words.{wide}
use Rattle.areas.specs.Layout.{Dims, answer_count, size_of, area_of, Limits}
use Rattle.areas.specs.Bulk.{laid, Copied}
use Rattle.areas.specs.Frames.{Saved, SavedWide}
use Rattle.areas.specs.Records.{record_in, set_record, SavedRecord}
use Rattle.areas.specs.Spans.{span_in, set_span, SavedSpan}
use Rattle.areas.proofs.Inside.{length-area}
use Rattle.areas.proofs.Laid.{take_laid}
use Rattle.model.specs.Observations.{tabulate}
use Rattle.model.specs.Pages.{add_entry, add_letters, set_cell, add_suffix}
use Rattle.model.proofs.Tabulating.{tabulate_push}
use Rattle.store.specs.Decoding.{suffix_in, entry_of, page_of, model_of}
use Rattle.moves.specs.Additions.{span_value}
use Rattle.moves.specs.Changes.{on_page}
use Rattle.moves.specs.Making.{Makes}
use Rattle.moves.proofs.Staying.{
  word_stays,
  words_stay,
  areas_stay,
  stays_then,
  word_written,
  words_written,
  log_stays,
  edges_stay,
  access_stays,
  suffixes_stay,
  entries_stay,
  cells_stay,
  model_on_page,
  makes,
  fits_still,
}

-- An answer is written behind the others, then counted.
pub entry_added : (w w₁ w' : List ℕ) (d : Dims) (n : ℕ) (r : Record) → Limits d → length w ≡ d.length → n < answer_count d.keys d.most → n ≡ get_or (area_of w d Header) 5 0 → SavedRecord w w₁ d n r → Saved w₁ w' d Header 5 (n + 1) → Makes w w' d (on_page (model_of w d) (add_entry (model_of w d).page (entry_of r)))
unfolding model_of page_of
entry_added w w₁ w' d n r l e h q s t =
    let then = word_stays w₁ w' d 5 (n + 1) t in
    let both = stays_then (areas_stay w w₁ d Answers (set_record (area_of w d Answers) n r) refl s.frame) then in
    let p = add_entry (page_of w d) (entry_of r) in
    let read : (c : ℕ) → record_in (area_of w' d Answers) c ≡ record_in (area_of w₁ d Answers) c = λ c. ap (λ (z : List ℕ). record_in z c) (then.area Answers refl) in
    let count : get_or (area_of w' d Header) 5 0 ≡ suc n = word_written w₁ w' d 5 (n + 1) l (s.frame.long ∙ e) (lit< tt) t ∙ add-one n in
    let entries : tabulate (get_or (area_of w' d Header) 5 0) (λ c. entry_of (record_in (area_of w' d Answers) c)) ≡ tabulate (get_or (area_of w d Header) 5 0) (λ c. entry_of (record_in (area_of w d Answers) c)) ++ (entry_of r ∷ []) =
    ap (λ (z : ℕ). tabulate z (λ c. entry_of (record_in (area_of w' d Answers) c))) count
    ∙ tabulate_push n (λ c. entry_of (record_in (area_of w d Answers) c)) (λ c. entry_of (record_in (area_of w' d Answers) c)) (entry_of r)
    (λ c g. ap entry_of (read c ∙ s.others c (omega arith))) (ap entry_of (read n ∙ s.back e h))
    ∙ ap (λ (z : ℕ). tabulate z (λ c. entry_of (record_in (area_of w d Answers) c)) ++ (entry_of r ∷ [])) q in
    makes (on_page (model_of w d) p) both refl (fits_still both refl refl)
    (model_on_page p both refl refl refl
    (λ i. record { log = log_stays both refl refl refl i; edges = edges_stay both refl refl i; access = access_stays both refl refl refl i; suffixes = suffixes_stay both refl refl i; entries = entries i; cells = cells_stay both refl i }))

-- A suffix is written behind the others, then counted.
pub suffix_added : (w w₁ w' : List ℕ) (d : Dims) (n : ℕ) (s : stored.Span) → Limits d → length w ≡ d.length → n < d.most → n ≡ get_or (area_of w d Header) 4 0 → SavedSpan w w₁ d n s → Saved w₁ w' d Header 4 (n + 1) → Makes w w' d (on_page (model_of w d) (add_suffix (model_of w d).page (span_value s)))
unfolding model_of page_of
suffix_added w w₁ w' d n s l e h q f t =
    let then = word_stays w₁ w' d 4 (n + 1) t in
    let both = stays_then (areas_stay w w₁ d Suffixes (set_span (area_of w d Suffixes) n s) refl f.frame) then in
    let p = add_suffix (page_of w d) (span_value s) in
    let read : (c : ℕ) → span_in (area_of w' d Suffixes) c ≡ span_in (area_of w₁ d Suffixes) c = λ c. ap (λ (z : List ℕ). span_in z c) (then.area Suffixes refl) in
    let count : get_or (area_of w' d Header) 4 0 ≡ suc n = word_written w₁ w' d 4 (n + 1) l (f.frame.long ∙ e) (lit< tt) t ∙ add-one n in
    let spans : tabulate (get_or (area_of w' d Header) 4 0) (suffix_in (area_of w' d Suffixes)) ≡ tabulate (get_or (area_of w d Header) 4 0) (suffix_in (area_of w d Suffixes)) ++ (span_value s ∷ []) =
    ap (λ (z : ℕ). tabulate z (suffix_in (area_of w' d Suffixes))) count
    ∙ tabulate_push n (suffix_in (area_of w d Suffixes)) (suffix_in (area_of w' d Suffixes)) (span_value s)
    (λ c g. ap span_value (read c ∙ f.others c (omega arith))) (ap span_value (read n ∙ f.back e h))
    ∙ ap (λ (z : ℕ). tabulate z (suffix_in (area_of w d Suffixes)) ++ (span_value s ∷ [])) q in
    makes (on_page (model_of w d) p) both refl (fits_still both refl refl)
    (model_on_page p both refl refl refl
    (λ i. record { log = log_stays both refl refl refl i; edges = edges_stay both refl refl i; access = access_stays both refl refl refl i; suffixes = spans i; entries = entries_stay both refl refl i; cells = cells_stay both refl i }))

-- A cell is written.
pub cell_set : (w w' : List ℕ) (d : Dims) (x u e c v : ℕ) → x ≡ u * d.most + e → v ≡ suc c → Saved w w' d Cells x v → Makes w w' d (on_page (model_of w d) (set_cell d.most (model_of w d).page u e c))
unfolding model_of page_of
cell_set w w' d x u e c v q r s =
    let stays = areas_stay w w' d Cells (set (area_of w d Cells) x v) refl s in
    let p = set_cell d.most (page_of w d) u e c in
    let cells : area_of w' d Cells ≡ set (area_of w d Cells) (u * d.most + e) (suc c) = s.here ∙ (λ i. set (area_of w d Cells) (q i) (r i)) in
    makes (on_page (model_of w d) p) stays refl (fits_still stays refl refl)
    (model_on_page p stays refl refl refl
    (λ i. record { log = log_stays stays refl refl refl i; edges = edges_stay stays refl refl i; access = access_stays stays refl refl refl i; suffixes = suffixes_stay stays refl refl i; entries = entries_stay stays refl refl i; cells = cells i }))

-- Letters are laid behind the log, then counted.
pub letters_added : (w w₁ w' : List ℕ) (d : Dims) (n : ℕ) (word : List ℕ) → Limits d → length w ≡ d.length → n + length word ≤ size_of d Letters → n ≡ wide (area_of w d Header) 6 → Copied w w₁ d Letters n word → SavedWide w₁ w' d Header 6 (n + length word) → Makes w w' d (on_page (model_of w d) (add_letters (model_of w d).page word))
unfolding model_of page_of
letters_added w w₁ w' d n word l e h q s t =
    let then = words_stay w₁ w' d 6 (n + length word) t in
    let both = stays_then (areas_stay w w₁ d Letters (laid (area_of w d Letters) n word) refl s) then in
    let p = add_letters (page_of w d) word in
    let count : wide (area_of w' d Header) 6 ≡ n + length word = words_written w₁ w' d 6 (n + length word) l (s.long ∙ e) (lit< tt) t in
    let log : take (wide (area_of w' d Header) 6) (area_of w' d Letters) ≡ take (wide (area_of w d Header) 6) (area_of w d Letters) ++ word =
    (λ i. take (count i) ((then.area Letters refl ∙ s.here) i))
    ∙ take_laid (area_of w d Letters) n word (omega (arith, length-area w d Letters l e))
    ∙ ap (λ (z : ℕ). take z (area_of w d Letters) ++ word) q in
    makes (on_page (model_of w d) p) both refl (λ f. omega (arith, count))
    (model_on_page p both refl refl refl
    (λ i. record { log = log i; edges = edges_stay both refl refl i; access = access_stays both refl refl refl i; suffixes = suffixes_stay both refl refl i; entries = entries_stay both refl refl i; cells = cells_stay both refl i }))
