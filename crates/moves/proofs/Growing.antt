-- One row more, as a move.
use Rattle.std.proofs.Common.{◌≡◌, ℕ, zero, suc, ◌+◌, ◌*◌, ◌/◌, ◌%◌, ◌<◌, ◌≤◌, List, [], ◌∷◌, ◌++◌, length, get_or, take, drop, set, sym, refl, ap, ◌∙◌, add-one, arith, lit<}
use Rattle.std.proofs.lemmas.List.{length-append, length-take-le, get_or-set_same, get_or-set_other, take-take, take_at, take-append-le, take_more_set, drop_at, drop-take}
use Rattle.areas.specs.declared.area.Area.TheVariants.{Header, Edges, Access, Sizes}
use Rattle.areas.specs.Layout.{Dims, size_of, area_of, Limits}
use Rattle.areas.specs.Bulk.{laid, Copied}
use Rattle.areas.specs.Frames.{Saved}
use Rattle.areas.proofs.Inside.{length-area}
use Rattle.areas.proofs.Laid.{laid_within}
use Rattle.model.specs.Observations.{tabulate, rows, access_word, edge_word}
use Rattle.model.specs.Pages.{add_row}
use Rattle.model.specs.Models.{observed_in}
use Rattle.model.proofs.Tabulating.{tabulate_push}
use Rattle.store.specs.Decoding.{access_in, page_of, model_of}
use Rattle.moves.specs.Changes.{on_page}
use Rattle.moves.specs.Making.{Makes}
use Rattle.moves.specs.Spelling.{RowIn, EdgeIn}
use Rattle.moves.proofs.Staying.{word_stays, areas_stay, stays_then, word_written, log_stays, suffixes_stay, entries_stay, cells_stay, model_on_page, makes, fits_still}
use Rattle.moves.proofs.Decoded.{rows_read}
use Rattle.moves.proofs.Spelled.{size_access, size_read, stretch_in, row_of_edge}

-- A part before the letters that are laid stays.
part_before : (xs word : List ℕ) (at p m : ℕ) → at + length word ≤ length xs → p + m ≤ at → take m (drop p (laid xs at word)) ≡ take m (drop p xs)
part_before xs word at p m h l =
    let back = drop (at + length word) xs in
    let front : take (p + m) (laid xs at word) ≡ take (p + m) xs =
    ap (take (p + m)) (laid_within xs at word h) ∙ take-append-le (p + m) (take at xs) (word ++ back) (omega (arith, length-take-le at xs (omega arith))) ∙ take-take (p + m) at xs l in
    sym (drop-take p m (laid xs at word)) ∙ ap (drop p) front ∙ drop-take p m xs

-- The letters that are laid are read back.
part_back : (xs word : List ℕ) (at : ℕ) → at + length word ≤ length xs → take (length word) (drop at (laid xs at word)) ≡ word
part_back xs word at h =
    let back = drop (at + length word) xs in
    ap (λ (z : List ℕ). take (length word) (drop at z)) (laid_within xs at word h)
    ∙ ap (take (length word)) (drop_at (take at xs) (word ++ back) at (length-take-le at xs (omega arith)))
    ∙ take_at word back (length word) refl

-- The word of an edge is no longer than there may be states.
pub edge_short : (w : List ℕ) (d : Dims) (u : ℕ) → Limits d → EdgeIn w d u → length (edge_word d.keys (observed_in (model_of w d)) u) ≤ d.most
edge_short w d zero l h = omega (arith, l.some_states)
edge_short w d (suc v) l h =
    let word = access_word (observed_in (model_of w d)) (v / d.keys) in
    omega (arith, length-append word (v % d.keys ∷ []), (row_of_edge w d v l h).short)

-- The areas that a row has one word of.
row_areas : (d : Dims) → (size_of d Edges ≡ d.most) × (size_of d Sizes ≡ d.most)
unfolding size_of
row_areas d = (refl, refl)

-- The word of an edge is laid into the next stretch, then its size and the edge are written, and the row is counted.
pub row_added : (w w₁ w₂ w₃ w' : List ℕ) (d : Dims) (n u at s : ℕ) (word : List ℕ) → Limits d → EdgeIn w d u → rows (observed_in (model_of w d)) < d.most → n ≡ get_or (area_of w d Header) 3 0 → at ≡ n * d.most → s ≡ length word → word ≡ edge_word d.keys (observed_in (model_of w d)) u → Copied w w₁ d Access at word → Saved w₁ w₂ d Sizes n s → Saved w₂ w₃ d Edges n u → Saved w₃ w' d Header 3 (n + 1) → Makes w w' d (on_page (model_of w d) (add_row d.keys (model_of w d).page u))
unfolding model_of page_of
row_added w w₁ w₂ w₃ w' d n u at s word l h room q p z e t₁ t₂ t₃ t₄ =
    let first = areas_stay w w₁ d Access (laid (area_of w d Access) at word) refl t₁ in
    let second = areas_stay w₁ w₂ d Sizes (set (area_of w₁ d Sizes) n s) refl t₂ in
    let third = areas_stay w₂ w₃ d Edges (set (area_of w₂ d Edges) n u) refl t₃ in
    let fourth = word_stays w₃ w' d 3 (n + 1) t₄ in
    let all = stays_then first (stays_then second (stays_then third fourth)) in
    let few : n < d.most = omega (arith, rows_read w d, room, q) in
    let long_edges : length (area_of w d Edges) ≡ d.most = length-area w d Edges l h.long ∙ (row_areas d).0 in
    let long_sizes : length (area_of w d Sizes) ≡ d.most = length-area w d Sizes l h.long ∙ (row_areas d).1 in
    let long_access : length (area_of w d Access) ≡ d.most * d.most = length-area w d Access l h.long ∙ size_access d in
    let fits : at + length word ≤ length (area_of w d Access) = omega (arith, stretch_in n d.most d.most few, edge_short w d u l h, ap length e, p) in
    let edges_after : area_of w' d Edges ≡ set (area_of w d Edges) n u =
    fourth.area Edges refl ∙ t₃.here ∙ ap (λ (x : List ℕ). set x n u) (second.area Edges refl ∙ first.area Edges refl) in
    let sizes_after : area_of w' d Sizes ≡ set (area_of w d Sizes) n s =
    fourth.area Sizes refl ∙ third.area Sizes refl ∙ t₂.here ∙ ap (λ (x : List ℕ). set x n s) (first.area Sizes refl) in
    let access_after : area_of w' d Access ≡ laid (area_of w d Access) at word =
    fourth.area Access refl ∙ third.area Access refl ∙ second.area Access refl ∙ t₁.here in
    let count : get_or (area_of w' d Header) 3 0 ≡ n + 1 = word_written w₃ w' d 3 (n + 1) l (t₃.long ∙ t₂.long ∙ t₁.long ∙ h.long) (lit< tt) t₄ in
    let old : (j : ℕ) → j < n → access_in d.most (set (area_of w d Sizes) n s) (laid (area_of w d Access) at word) j ≡ access_in d.most (area_of w d Sizes) (area_of w d Access) j = λ j g.
    let there : j < rows (observed_in (model_of w d)) = omega (arith, rows_read w d, q) in
    let row : RowIn w d j = record { long = h.long; few = h.few; there = there; short = h.short j there } in
    ap (λ (x : ℕ). take x (drop (j * d.most) (laid (area_of w d Access) at word))) (get_or-set_other (area_of w d Sizes) n j s 0 (omega arith))
    ∙ part_before (area_of w d Access) word at (j * d.most) (get_or (area_of w d Sizes) j 0) fits (omega (arith, stretch_in j n d.most g, size_read w d j l row, row.short, p)) in
    let new : access_in d.most (set (area_of w d Sizes) n s) (laid (area_of w d Access) at word) n ≡ edge_word d.keys (observed_in (model_of w d)) u =
    (λ i. take ((get_or-set_same (area_of w d Sizes) n s 0 (omega (arith, long_sizes)) ∙ z) i) (drop (sym p i) (laid (area_of w d Access) at word)))
    ∙ part_back (area_of w d Access) word at fits ∙ e in
    let edges : take (get_or (area_of w' d Header) 3 0) (area_of w' d Edges) ≡ take (get_or (area_of w d Header) 3 0) (area_of w d Edges) ++ (u ∷ []) =
    (λ i. take (count i) (edges_after i)) ∙ take_more_set (area_of w d Edges) n u (omega (arith, long_edges)) ∙ ap (λ (x : ℕ). take x (area_of w d Edges) ++ (u ∷ [])) q in
    let access : tabulate (get_or (area_of w' d Header) 3 0) (access_in d.most (area_of w' d Sizes) (area_of w' d Access)) ≡ tabulate (get_or (area_of w d Header) 3 0) (access_in d.most (area_of w d Sizes) (area_of w d Access)) ++ (edge_word d.keys (observed_in (model_of w d)) u ∷ []) =
    (λ i. tabulate ((count ∙ add-one n) i) (access_in d.most (sizes_after i) (access_after i)))
    ∙ tabulate_push n (access_in d.most (area_of w d Sizes) (area_of w d Access)) (access_in d.most (set (area_of w d Sizes) n s) (laid (area_of w d Access) at word)) (edge_word d.keys (observed_in (model_of w d)) u) old new
    ∙ ap (λ (x : ℕ). tabulate x (access_in d.most (area_of w d Sizes) (area_of w d Access)) ++ (edge_word d.keys (observed_in (model_of w d)) u ∷ [])) q in
    let page = add_row d.keys (page_of w d) u in
    makes (on_page (model_of w d) page) all refl (fits_still all refl refl)
    (model_on_page page all refl refl refl
    (λ i. record { log = log_stays all refl refl refl i; edges = edges i; access = access i; suffixes = suffixes_stay all refl refl i; entries = entries_stay all refl refl i; cells = cells_stay all refl i }))
