-- Spans of four words in the suffixes: how one is read, and what writing one leaves.
use Rattle.std.specs.Prelude.{◌≡◌, ℕ, ◌+◌, ◌*◌, ◌<◌, List, length, ◌≢◌}
use Rattle.areas.specs.declared.area.Area.TheVariants.{Suffixes}
use Rattle.areas.specs.declared.spans.Span.{Span}
use Rattle.areas.specs.Words.{wide, set_wide}
use Rattle.areas.specs.Layout.{Dims, area_of}
use Rattle.areas.specs.Frames.{Rewritten}

-- Span i of a list.
unfoldable pub span_in : List ℕ → ℕ → Span
span_in xs i = record { start = wide xs (4 * i); size = wide xs (4 * i + 2) }

-- A list with span i written.
unfoldable pub set_span : List ℕ → ℕ → Span → List ℕ
set_span xs i s = set_wide (set_wide xs (4 * i) s.start) (4 * i + 2) s.size

-- Span i of the suffixes was written: it is read back, and all other spans and areas stay.
pub record SavedSpan (w w' : List ℕ) (d : Dims) (i : ℕ) (s : Span) : Type 0 where
  pub frame : Rewritten w w' d Suffixes (set_span (area_of w d Suffixes) i s)
  pub back : length w ≡ d.length → i < d.most → span_in (area_of w' d Suffixes) i ≡ s
  pub others : (j : ℕ) → (j ≢ i) → span_in (area_of w' d Suffixes) j ≡ span_in (area_of w d Suffixes) j
