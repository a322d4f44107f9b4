-- What is added to a page, under which premises, and what the model is then.
use Rattle.std.specs.Prelude.{◌≡◌, ℕ, ◌+◌, ◌<◌, ◌≤◌, List, length}
use Rattle.areas.specs.declared.area.Area.TheVariants.{Header, Letters}
use Rattle.areas.specs.declared.records.Record.{Record}
use Rattle.areas.specs.declared.spans.Span as stored
use Rattle.areas.specs.Words.{wide}
use Rattle.areas.specs.Layout.{Dims, answer_count, size_of, area_of}
use Rattle.model.specs.Observations.{rows}
use Rattle.model.specs.Pages.{Span, add_entry, add_letters, set_cell, add_row, add_suffix}
use Rattle.store.specs.Decoding.{letters_word, entry_of}
use Rattle.moves.specs.Changes.{on_page}
use Rattle.moves.specs.Making.{MakesBy}
use Rattle.moves.specs.Observed.{observed_at, page_at}
use Rattle.moves.specs.Spelling.{EdgeIn}

-- A part of the log, as the model has it.
abbrev pub span_value : stored.Span → Span
span_value s = record { start = s.start; size = s.size }

-- An answer more, where there is room.
abbrev pub EntryAdded : List ℕ → List ℕ → Dims → Record → Type 0
EntryAdded w w' d r =
    length w ≡ d.length → length (page_at w d).entries < answer_count d.keys d.most
    → MakesBy w w' d (λ m. on_page m (add_entry m.page (entry_of r)))

-- A cell filled with an answer whose number is not the largest.
abbrev pub CellSet : List ℕ → List ℕ → Dims → ℕ → ℕ → ℕ → Type 0
CellSet w w' d u e c = c < 4294967295 → MakesBy w w' d (λ m. on_page m (set_cell d.most m.page u e c))

-- A suffix more, where there is room.
abbrev pub SuffixAdded : List ℕ → List ℕ → Dims → stored.Span → Type 0
SuffixAdded w w' d s =
    length w ≡ d.length → length (page_at w d).suffixes < d.most
    → MakesBy w w' d (λ m. on_page m (add_suffix m.page (span_value s)))

-- Letters more, where all of them fit behind the log.
abbrev pub LettersAdded : List ℕ → List ℕ → Dims → List ℕ → Type 0
LettersAdded w w' d word =
    length w ≡ d.length → wide (area_of w d Header) letters_word + length word ≤ size_of d Letters
    → MakesBy w w' d (λ m. on_page m (add_letters m.page word))

-- A row more, from an edge, where there is room.
abbrev pub RowAdded : List ℕ → List ℕ → Dims → ℕ → Type 0
RowAdded w w' d u =
    EdgeIn w d u → rows (observed_at w d) < d.most → MakesBy w w' d (λ m. on_page m (add_row d.keys m.page u))
