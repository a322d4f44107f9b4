-- Records of the answers: which words they are read from, and what writing one does to each.
use Rattle.std.proofs.Common.{◌≡◌, ℕ, ◌+◌, ◌*◌, ◌<◌, ◌≤◌, ◌≢◌, ◌⊎◌, List, length, get_or, set, sym, refl, ap, ◌∙◌, inl, inr, ⊎_elim, arith}
use Rattle.std.proofs.lemmas.Bool.{cases_order}
use Rattle.std.proofs.lemmas.List.{length-set, get_or-set_same, get_or-set_other, get_or_past, set_past}
use Rattle.areas.specs.declared.area.Area.TheVariants.{Answers}
use Rattle.areas.specs.declared.records.Record.{Record}
use Rattle.areas.specs.Words.{wide, set_wide}
use Rattle.areas.specs.Layout.{Dims, answer_count, size_of, area_of, Limits}
use Rattle.areas.specs.Frames.{Rewritten, Saved, SavedWide}
use Rattle.areas.specs.Records.{record_from, record_in, set_record_from, set_record, SavedRecord}
use Rattle.areas.proofs.Pairs.{wide_past, set_wide_past, length-set_wide, get_or-set_wide, wide_set_wide, wide_set, wide_set_wide_other}
use Rattle.areas.proofs.Inside.{length-area, rewritten_twice}

-- Records with the same fields are the same.
pub record_same : (r s : Record) → r.row ≡ s.row → r.key ≡ s.key → r.start ≡ s.start → r.size ≡ s.size → r.shown ≡ s.shown → r ≡ s
record_same r s p q t u v = λ i. record { row = p i; key = q i; start = t i; size = u i; shown = v i }

wide_alike : (xs ys : List ℕ) (a b : ℕ) → get_or xs a 0 ≡ get_or ys b 0 → get_or xs (a + 1) 0 ≡ get_or ys (b + 1) 0 → wide xs a ≡ wide ys b
unfolding wide
wide_alike xs ys a b p q = omega (arith, p, q)

-- A record is read from seven words.
pub record_alike : (xs ys : List ℕ) (a b : ℕ) → ((j : ℕ) → j < 7 → get_or xs (a + j) 0 ≡ get_or ys (b + j) 0) → record_from xs a ≡ record_from ys b
unfolding record_from
record_alike xs ys a b h =
    let at : (m n j : ℕ) → m ≡ a + j → n ≡ b + j → j < 7 → get_or xs m 0 ≡ get_or ys n 0 =
    λ m n j p q l. ap (λ (z : ℕ). get_or xs z 0) p ∙ h j l ∙ ap (λ (z : ℕ). get_or ys z 0) (sym q) in
    record_same (record_from xs a) (record_from ys b)
    (at a b 0 (omega arith) (omega arith) (omega arith))
    (at (a + 1) (b + 1) 1 refl refl (omega arith))
    (wide_alike xs ys (a + 2) (b + 2) (at (a + 2) (b + 2) 2 refl refl (omega arith)) (at (a + 2 + 1) (b + 2 + 1) 3 (omega arith) (omega arith) (omega arith)))
    (wide_alike xs ys (a + 4) (b + 4) (at (a + 4) (b + 4) 4 refl refl (omega arith)) (at (a + 4 + 1) (b + 4 + 1) 5 (omega arith) (omega arith) (omega arith)))
    (at (a + 6) (b + 6) 6 refl refl (omega arith))

-- A record past the end has zeros.
pub record_past : (xs : List ℕ) (at : ℕ) → length xs ≤ at → record_from xs at ≡ record { row = 0; key = 0; start = 0; size = 0; shown = 0 }
unfolding record_from
record_past xs at h =
    record_same (record_from xs at) (record { row = 0; key = 0; start = 0; size = 0; shown = 0 })
    (get_or_past xs at 0 h) (get_or_past xs (at + 1) 0 (omega arith)) (wide_past xs (at + 2) (omega arith)) (wide_past xs (at + 4) (omega arith)) (get_or_past xs (at + 6) 0 (omega arith))

-- Past the end no record is written.
pub set_record_past : (xs : List ℕ) (at : ℕ) (r : Record) → length xs ≤ at → set_record_from xs at r ≡ xs
unfolding set_record_from
set_record_past xs at r h =
    let a : set xs at r.row ≡ xs = set_past xs at r.row h in
    let b : set xs (at + 1) r.key ≡ xs = set_past xs (at + 1) r.key (omega arith) in
    let c : set_wide xs (at + 2) r.start ≡ xs = set_wide_past xs (at + 2) r.start (omega arith) in
    let d : set_wide xs (at + 4) r.size ≡ xs = set_wide_past xs (at + 4) r.size (omega arith) in
    let e : set xs (at + 6) r.shown ≡ xs = set_past xs (at + 6) r.shown (omega arith) in
    cc

-- The words beside a record that is written stay.
pub get_or-set_record : (xs : List ℕ) (at : ℕ) (r : Record) (p : ℕ) → (p < at) ⊎ (at + 6 < p) → get_or (set_record_from xs at r) p 0 ≡ get_or xs p 0
unfolding set_record_from
get_or-set_record xs at r p h =
    let rows = set xs at r.row in
    let keys = set rows (at + 1) r.key in
    let starts = set_wide keys (at + 2) r.start in
    let sizes = set_wide starts (at + 4) r.size in
    let ne : (j : ℕ) → j < 7 → p ≢ at + j = λ j l. ⊎_elim (λ (q : p < at). omega arith) (λ (q : at + 6 < p). omega arith) h in
    get_or-set_other sizes (at + 6) p r.shown 0 (ne 6 (omega arith))
    ∙ get_or-set_wide starts (at + 4) p r.size (ne 4 (omega arith)) (omega (arith, ne 5 (omega arith)))
    ∙ get_or-set_wide keys (at + 2) p r.start (ne 2 (omega arith)) (omega (arith, ne 3 (omega arith)))
    ∙ get_or-set_other rows (at + 1) p r.key 0 (ne 1 (omega arith))
    ∙ get_or-set_other xs at p r.row 0 (omega (arith, ne 0 (omega arith)))

-- A record that was written within the list is read back.
pub record_back : (xs : List ℕ) (at : ℕ) (r : Record) → at + 6 < length xs → record_from (set_record_from xs at r) at ≡ r
unfolding record_from set_record_from
record_back xs at r h =
    let rows = set xs at r.row in
    let keys = set rows (at + 1) r.key in
    let starts = set_wide keys (at + 2) r.start in
    let sizes = set_wide starts (at + 4) r.size in
    let all = set sizes (at + 6) r.shown in
    let len : length keys ≡ length xs = simp length-set in
    let len_starts : length starts ≡ length xs = length-set_wide keys (at + 2) r.start ∙ len in
    let len_sizes : length sizes ≡ length xs = length-set_wide starts (at + 4) r.size ∙ len_starts in
    let front : (p : ℕ) → p < at + 2 → get_or all p 0 ≡ get_or keys p 0 = λ p l.
    get_or-set_other sizes (at + 6) p r.shown 0 (omega arith)
    ∙ get_or-set_wide starts (at + 4) p r.size (omega arith) (omega arith)
    ∙ get_or-set_wide keys (at + 2) p r.start (omega arith) (omega arith) in
    record_same (record_from all at) r
    (front at (omega arith) ∙ get_or-set_other rows (at + 1) at r.key 0 (omega arith) ∙ get_or-set_same xs at r.row 0 (omega arith))
    (front (at + 1) (omega arith) ∙ get_or-set_same rows (at + 1) r.key 0 (simp length-set (omega arith)))
    (wide_set sizes (at + 2) (at + 6) r.shown (omega arith) (omega arith)
    ∙ wide_set_wide_other starts (at + 2) (at + 4) r.size (omega arith) (omega arith) (omega arith)
    ∙ wide_set_wide keys (at + 2) r.start (omega (arith, len)))
    (wide_set sizes (at + 4) (at + 6) r.shown (omega arith) (omega arith) ∙ wide_set_wide starts (at + 4) r.size (omega (arith, len_starts)))
    (get_or-set_same sizes (at + 6) r.shown 0 (omega (arith, len_sizes)))

-- Every other record stays.
pub record_other : (xs : List ℕ) (i j : ℕ) (r : Record) → (j ≡ i → ⊥) → record_in (set_record xs i r) j ≡ record_in xs j
record_other xs i j r ne =
    record_alike (set_record xs i r) xs (8 * j) (8 * j)
    (λ t l. get_or-set_record xs (8 * i) r (8 * j + t)
    (⊎_elim (λ (e : j ≡ i). absurd (ne e)) (⊎_elim (λ (e : j < i). inl (omega arith)) (λ (e : i < j). inr (omega arith))) (cases_order j i)))

-- Writing a record changes no length.
pub length-set_record : (xs : List ℕ) (i : ℕ) (r : Record) → length (set_record xs i r) ≡ length xs
unfolding set_record_from
length-set_record xs i r = simp (length-set, length-set_wide)

-- The answers have eight words for each record.
pub size_answers : (d : Dims) → size_of d Answers ≡ 8 * answer_count d.keys d.most
unfolding size_of
size_answers d = refl

-- What is known where the answers hold a record more.
pub record_saved : (w w' : List ℕ) (d : Dims) (i : ℕ) (r : Record) → Limits d → Rewritten w w' d Answers (set_record (area_of w d Answers) i r) → SavedRecord w w' d i r
record_saved w w' d i r l f = record {
  frame = f;
  back = λ e h. ap (λ (z : List ℕ). record_in z i) f.here ∙ record_back (area_of w d Answers) (8 * i) r (omega (arith, length-area w d Answers l e, size_answers d, h));
  others = λ j ne. ap (λ (z : List ℕ). record_in z j) f.here ∙ record_other (area_of w d Answers) i j r ne;
}

-- The five writes of a record.
pub record_written : (w wr wk ws wz w' : List ℕ) (d : Dims) (i : ℕ) (r : Record) → Saved w wr d Answers (8 * i) r.row → Saved wr wk d Answers (8 * i + 1) r.key → SavedWide wk ws d Answers (8 * i + 2) r.start → SavedWide ws wz d Answers (8 * i + 4) r.size → Saved wz w' d Answers (8 * i + 6) r.shown → Rewritten w w' d Answers (set_record (area_of w d Answers) i r)
unfolding set_record_from
record_written w wr wk ws wz w' d i r p q s t u =
    let rows = set (area_of w d Answers) (8 * i) r.row in
    let keys = set rows (8 * i + 1) r.key in
    let starts = set_wide keys (8 * i + 2) r.start in
    let sizes = set_wide starts (8 * i + 4) r.size in
    let with_key = rewritten_twice w wr wk d Answers (λ z. set z (8 * i + 1) r.key) rows p q in
    let with_start = rewritten_twice w wk ws d Answers (λ z. set_wide z (8 * i + 2) r.start) keys with_key s in
    let with_size = rewritten_twice w ws wz d Answers (λ z. set_wide z (8 * i + 4) r.size) starts with_start t in
    rewritten_twice w wz w' d Answers (λ z. set z (8 * i + 6) r.shown) sizes with_size u
