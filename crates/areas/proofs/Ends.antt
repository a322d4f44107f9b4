-- Spans of the suffixes: what writing one does to each.
use Rattle.std.proofs.Common.{◌≡◌, ℕ, ◌+◌, ◌*◌, ◌<◌, ◌≤◌, List, length, refl, ap, ◌∙◌, arith}
use Rattle.areas.specs.declared.area.Area.TheVariants.{Suffixes}
use Rattle.areas.specs.declared.spans.Span.{Span}
use Rattle.areas.specs.Words.{wide, set_wide}
use Rattle.areas.specs.Layout.{Dims, size_of, area_of, Limits}
use Rattle.areas.specs.Frames.{Rewritten, SavedWide}
use Rattle.areas.specs.Spans.{span_in, set_span, SavedSpan}
use Rattle.areas.proofs.Pairs.{wide_past, set_wide_past, length-set_wide, wide_set_wide, wide_set_wide_other}
use Rattle.areas.proofs.Inside.{length-area, rewritten_twice}

-- Spans with the same start and size are the same.
pub span_same : (s t : Span) → s.start ≡ t.start → s.size ≡ t.size → s ≡ t
span_same s t p q = λ i. record { start = p i; size = q i }

-- A span past the end has zeros.
pub span_past : (xs : List ℕ) (i : ℕ) → length xs ≤ 4 * i → span_in xs i ≡ record { start = 0; size = 0 }
unfolding span_in
span_past xs i h = span_same (span_in xs i) (record { start = 0; size = 0 }) (wide_past xs (4 * i) h) (wide_past xs (4 * i + 2) (omega arith))

-- Past the end no span is written.
pub set_span_past : (xs : List ℕ) (i : ℕ) (s : Span) → length xs ≤ 4 * i → set_span xs i s ≡ xs
unfolding set_span
set_span_past xs i s h =
    ap (λ (z : List ℕ). set_wide z (4 * i + 2) s.size) (set_wide_past xs (4 * i) s.start h) ∙ set_wide_past xs (4 * i + 2) s.size (omega arith)

-- A span that was written within the list is read back.
pub span_back : (xs : List ℕ) (i : ℕ) (s : Span) → 4 * i + 3 < length xs → span_in (set_span xs i s) i ≡ s
unfolding span_in set_span
span_back xs i s h =
    let starts = set_wide xs (4 * i) s.start in
    let len : length starts ≡ length xs = length-set_wide xs (4 * i) s.start in
    span_same (span_in (set_wide starts (4 * i + 2) s.size) i) s
    (wide_set_wide_other starts (4 * i) (4 * i + 2) s.size (omega arith) (omega arith) (omega arith) ∙ wide_set_wide xs (4 * i) s.start (omega arith))
    (wide_set_wide starts (4 * i + 2) s.size (omega (arith, len)))

-- A number of two words stays where a span apart from it is written.
wide_set_span : (xs : List ℕ) (i p : ℕ) (s : Span) → (p ≡ 4 * i → ⊥) → (p ≡ 4 * i + 1 → ⊥) → (p + 1 ≡ 4 * i → ⊥) → (p ≡ 4 * i + 2 → ⊥) → (p ≡ 4 * i + 3 → ⊥) → wide (set_span xs i s) p ≡ wide xs p
unfolding set_span
wide_set_span xs i p s a b c d e =
    wide_set_wide_other (set_wide xs (4 * i) s.start) p (4 * i + 2) s.size d (omega (arith, e)) (omega (arith, b))
    ∙ wide_set_wide_other xs p (4 * i) s.start a b c

-- Every other span stays.
pub span_other : (xs : List ℕ) (i j : ℕ) (s : Span) → (j ≡ i → ⊥) → span_in (set_span xs i s) j ≡ span_in xs j
unfolding span_in
span_other xs i j s ne =
    span_same (span_in (set_span xs i s) j) (span_in xs j)
    (wide_set_span xs i (4 * j) s (omega (arith, ne)) (omega (arith, ne)) (omega (arith, ne)) (omega (arith, ne)) (omega (arith, ne)))
    (wide_set_span xs i (4 * j + 2) s (omega (arith, ne)) (omega (arith, ne)) (omega (arith, ne)) (omega (arith, ne)) (omega (arith, ne)))

-- Writing a span changes no length.
pub length-set_span : (xs : List ℕ) (i : ℕ) (s : Span) → length (set_span xs i s) ≡ length xs
unfolding set_span
length-set_span xs i s = simp length-set_wide

-- The suffixes have four words for each span.
pub size_suffixes : (d : Dims) → size_of d Suffixes ≡ 4 * d.most
unfolding size_of
size_suffixes d = refl

-- What is known where the suffixes hold a span more.
pub span_saved : (w w' : List ℕ) (d : Dims) (i : ℕ) (s : Span) → Limits d → Rewritten w w' d Suffixes (set_span (area_of w d Suffixes) i s) → SavedSpan w w' d i s
span_saved w w' d i s l f = record {
  frame = f;
  back = λ e h. ap (λ (z : List ℕ). span_in z i) f.here ∙ span_back (area_of w d Suffixes) i s (omega (arith, length-area w d Suffixes l e, size_suffixes d, h));
  others = λ j ne. ap (λ (z : List ℕ). span_in z j) f.here ∙ span_other (area_of w d Suffixes) i j s ne;
}

-- The two writes of a span.
pub span_written : (w ws w' : List ℕ) (d : Dims) (i : ℕ) (s : Span) → SavedWide w ws d Suffixes (4 * i) s.start → SavedWide ws w' d Suffixes (4 * i + 2) s.size → Rewritten w w' d Suffixes (set_span (area_of w d Suffixes) i s)
unfolding set_span
span_written w ws w' d i s p q =
    rewritten_twice w ws w' d Suffixes (λ z. set_wide z (4 * i + 2) s.size) (set_wide (area_of w d Suffixes) (4 * i) s.start) p q
