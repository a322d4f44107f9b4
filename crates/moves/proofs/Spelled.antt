-- Rows' edges and access words, and the words of edges, from the areas that they are read from.
use Rattle.std.proofs.Common.{◌≡◌, ℕ, suc, ◌+◌, ◌*◌, ◌/◌, ◌%◌, ◌<◌, ◌≤◌, List, [], ◌∷◌, ◌++◌, length, get_or, take, drop, set, sym, refl, ap, ◌∙◌, subst, mul-le-mul_right, suc-mul, arith}
use Rattle.std.proofs.lemmas.Nat.{div_below}
use Rattle.std.proofs.lemmas.List.{length-set, length-take, length-take-le, length-drop, get_or-take, get_or-drop, take_more, take_more_set}
use Rattle.areas.specs.declared.area.Area.TheVariants.{Header, Edges, Access, Sizes}
use Rattle.areas.specs.Layout.{Dims, size_of, area_of, Limits}
use Rattle.areas.proofs.Inside.{length-area}
use Rattle.model.specs.Observations.{rows, edge_of, access_word, edge_word}
use Rattle.model.specs.Models.{observed_in}
use Rattle.model.proofs.Tabulating.{get_d_tabulate}
use Rattle.store.specs.Decoding.{access_in, page_of, model_of}
use Rattle.moves.specs.Spelling.{RowIn, EdgeIn, AccessWritten, EdgeWritten}
use Rattle.moves.proofs.Decoded.{rows_read}

pub edge_read : (w : List ℕ) (d : Dims) (j : ℕ) → j < rows (observed_in (model_of w d)) → edge_of (observed_in (model_of w d)) j ≡ get_or (area_of w d Edges) j 0
unfolding model_of page_of
edge_read w d j h = get_or-take (get_or (area_of w d Header) 3 0) (area_of w d Edges) j 0 (omega (arith, rows_read w d))

pub access_read : (w : List ℕ) (d : Dims) (j : ℕ) → j < rows (observed_in (model_of w d)) → access_word (observed_in (model_of w d)) j ≡ access_in d.most (area_of w d Sizes) (area_of w d Access) j
unfolding model_of page_of
access_read w d j h =
    get_d_tabulate (get_or (area_of w d Header) 3 0) (access_in d.most (area_of w d Sizes) (area_of w d Access)) j [] (omega (arith, rows_read w d))

pub size_access : (d : Dims) → size_of d Access ≡ d.most * d.most
unfolding size_of
size_access d = refl

-- The stretch of row j lies within the stretches of m rows.
pub stretch_in : (j m n : ℕ) → j < m → j * n + n ≤ m * n
stretch_in j m n h = omega (arith, mul-le-mul_right {m = suc j} {n = m} n h, suc-mul j n)

-- A part that is shorter than there is room for has the size that it says.
size_short : (xs : List ℕ) (p s n : ℕ) → p + n ≤ length xs → length (take s (drop p xs)) < n → s ≡ length (take s (drop p xs))
size_short xs p s n h l = omega (arith, length-take s (drop p xs), length-drop p xs)

-- The size of an access word is in its word of the sizes.
pub size_read : (w : List ℕ) (d : Dims) (j : ℕ) → Limits d → RowIn w d j → get_or (area_of w d Sizes) j 0 ≡ length (access_word (observed_in (model_of w d)) j)
size_read w d j l h =
    let a = access_read w d j h.there in
    let s = get_or (area_of w d Sizes) j 0 in
    let long : length (area_of w d Access) ≡ d.most * d.most = length-area w d Access l h.long ∙ size_access d in
    let short : length (take s (drop (j * d.most) (area_of w d Access))) < d.most = subst (λ (z : List ℕ). length z < d.most) a h.short in
    size_short (area_of w d Access) (j * d.most) s d.most (omega (arith, stretch_in j d.most d.most (omega (arith, h.few, h.there)))) short ∙ ap length (sym a)

-- A letter of an access word is in its stretch.
pub access_letter_read : (w : List ℕ) (d : Dims) (j i : ℕ) → Limits d → RowIn w d j → i < length (access_word (observed_in (model_of w d)) j) → get_or (access_word (observed_in (model_of w d)) j) i 0 ≡ get_or (area_of w d Access) (j * d.most + i) 0
access_letter_read w d j i l h g =
    ap (λ (z : List ℕ). get_or z i 0) (access_read w d j h.there)
    ∙ get_or-take (get_or (area_of w d Sizes) j 0) (drop (j * d.most) (area_of w d Access)) i 0 (omega (arith, size_read w d j l h))
    ∙ get_or-drop (j * d.most) (area_of w d Access) i 0

-- One letter more.
pub letter_more : (out word : List ℕ) (i y : ℕ) → i < length out → i < length word → take i out ≡ take i word → y ≡ get_or word i 0 → take (i + 1) (set out i y) ≡ take (i + 1) word
letter_more out word i y h l e q =
    take_more_set out i y h ∙ (λ j. e j ++ (q j ∷ [])) ∙ sym (take_more word i 0 l)

-- As many letters as were written are the word's.
pub written_long : (w : List ℕ) (d : Dims) (j : ℕ) (out : List ℕ) (r : ℕ) → RowIn w d j → d.most ≤ length out → r ≤ length out → AccessWritten w d j out r → r ≡ length (access_word (observed_in (model_of w d)) j)
written_long w d j out r h m g t = sym (length-take-le r out g) ∙ ap length (t h m)

-- The row of an edge is there.
pub row_of_edge : (w : List ℕ) (d : Dims) (v : ℕ) → Limits d → EdgeIn w d (suc v) → RowIn w d (v / d.keys)
row_of_edge w d v l h =
    let there : v / d.keys < rows (observed_in (model_of w d)) = div_below v d.keys (rows (observed_in (model_of w d))) l.some_keys (omega (arith, h.there)) in
    record { long = h.long; few = h.few; there = there; short = h.short (v / d.keys) there }

-- The key behind the access word makes the word of the edge.
pub edge_written : (w : List ℕ) (d : Dims) (u v x : ℕ) (out : List ℕ) (r : ℕ) → Limits d → u ≡ suc v → x ≡ v % d.keys → r < length out → AccessWritten w d (v / d.keys) out r → EdgeWritten w d u (set out r x) (r + 1)
edge_written w d u v x out r l q p g t h m =
    let row = row_of_edge w d v l (subst (EdgeIn w d) q h) in
    take_more_set out r x g
    ∙ (λ i. t row (omega (arith, length-set out r x)) i ++ (p i ∷ []))
    ∙ ap (edge_word d.keys (observed_in (model_of w d))) (sym q)

-- An access word never fills out to its end.
pub edge_not_short : (w : List ℕ) (d : Dims) (u v : ℕ) (out : List ℕ) (r : ℕ) → Limits d → u ≡ suc v → r ≡ length out → AccessWritten w d (v / d.keys) out r → EdgeWritten w d u out r
edge_not_short w d u v out r l q g t h m =
    let row = row_of_edge w d v l (subst (EdgeIn w d) q h) in
    absurd (omega (arith, written_long w d (v / d.keys) out r row m (omega arith) t, row.short))
