-- How a memory is read as a model of the learner.
use Rattle.std.specs.Prelude.{ℕ, zero, suc, ◌*◌, List, length, take, drop, slice_index}
use Rattle.areas.specs.declared.area.Area.TheVariants.{Header, Edges, Access, Sizes, Suffixes, Cells, Successors, Answers, Letters}
use Rattle.areas.specs.declared.records.Record.{Record}
use Rattle.areas.specs.Words.{wide}
use Rattle.areas.specs.Layout.{Dims, sized, area_of}
use Rattle.areas.specs.Records.{record_in}
use Rattle.areas.specs.Spans.{span_in}
use Rattle.model.specs.Observations.{tabulate}
use Rattle.model.specs.Learners.{Phase, filling, asks_cell, shows_table, bisecting, asks_middle, larger, broken, Bisection}
use Rattle.model.specs.Pages.{Span, Entry, Page}
use Rattle.model.specs.Models.{Model}

-- The number that marks a memory as a store.
abbrev pub store_mark : ℕ
store_mark = 1280263758

-- Where the header has the mark.
abbrev pub mark_word : ℕ
mark_word = 0

-- Where it has the number of keys.
abbrev pub keys_word : ℕ
keys_word = 1

-- Where it has the most states.
abbrev pub most_word : ℕ
most_word = 2

-- Where it has the number of rows.
abbrev pub rows_word : ℕ
rows_word = 3

-- Where it has the number of suffixes.
abbrev pub suffixes_word : ℕ
suffixes_word = 4

-- Where it has the number of answers.
abbrev pub answers_word : ℕ
answers_word = 5

-- Where it has the number of the log's letters, in two words.
abbrev pub letters_word : ℕ
letters_word = 6

-- Where it has the number of answers got in searches.
abbrev pub bisected_word : ℕ
bisected_word = 8

-- Where it has the number of refutations.
abbrev pub refutes_word : ℕ
refutes_word = 9

-- Where it has the rows of the last table shown.
abbrev pub last_word : ℕ
last_word = 10

-- Where it has the number of the phase.
abbrev pub phase_word : ℕ
phase_word = 11

-- Where it has the first number of the phase.
abbrev pub first_word : ℕ
first_word = 12

-- Where it has the second number of the phase.
abbrev pub second_word : ℕ
second_word = 13

-- Where it has the third number of the phase.
abbrev pub third_word : ℕ
third_word = 14

-- Where it has the lower end of a search, in two words.
abbrev pub low_word : ℕ
low_word = 16

-- Where it has the upper end of a search, in two words.
abbrev pub high_word : ℕ
high_word = 18

-- A phase from its number and the numbers that belong to it.
abbrev pub phase_by : ℕ → ℕ → ℕ → Bisection → Phase
phase_by zero a b l = filling
phase_by (suc zero) a b l = asks_cell a b
phase_by (suc (suc zero)) a b l = shows_table
phase_by (suc (suc (suc zero))) a b l = bisecting l
phase_by (suc (suc (suc (suc zero)))) a b l = asks_middle l
phase_by (suc (suc (suc (suc (suc zero))))) a b l = larger a
phase_by (suc (suc (suc (suc (suc (suc n)))))) a b l = broken

-- The search that a header holds.
abbrev pub search_in : List ℕ → Bisection
search_in h = record { along = slice_index h first_word; lo = wide h low_word; hi = wide h high_word; left = slice_index h second_word; right = slice_index h third_word }

-- The phase that a header holds.
abbrev pub phase_in : List ℕ → Phase
phase_in h = phase_by (slice_index h phase_word) (slice_index h first_word) (slice_index h second_word) (search_in h)

-- An answer's entry, from its record.
abbrev pub entry_of : Record → Entry
entry_of r = record { row = r.row; key = r.key; span = record { start = r.start; size = r.size }; shown = r.shown }

-- The access word of row j: so many letters of its stretch of n.
abbrev pub access_in : ℕ → List ℕ → List ℕ → ℕ → List ℕ
access_in n sizes letters j = take (slice_index sizes j) (drop (j * n) letters)

-- A suffix, as a part of the log.
abbrev pub suffix_in : List ℕ → ℕ → Span
suffix_in spans e = record { start = (span_in spans e).start; size = (span_in spans e).size }

-- What a memory is laid out for, by its own words.
abbrev pub dims_of : List ℕ → Dims
dims_of w = sized (slice_index w keys_word) (slice_index w most_word) (length w)

-- The page of a memory that is laid out so.
unfoldable pub page_of : List ℕ → Dims → Page
page_of w d = record {
  log = take (wide (area_of w d Header) letters_word) (area_of w d Letters);
  edges = take (slice_index (area_of w d Header) rows_word) (area_of w d Edges);
  access = tabulate (slice_index (area_of w d Header) rows_word) (access_in d.most (area_of w d Sizes) (area_of w d Access));
  suffixes = tabulate (slice_index (area_of w d Header) suffixes_word) (suffix_in (area_of w d Suffixes));
  entries = tabulate (slice_index (area_of w d Header) answers_word) (λ c. entry_of (record_in (area_of w d Answers) c));
  cells = area_of w d Cells;
}

-- The model of a memory that is laid out so.
unfoldable pub model_of : List ℕ → Dims → Model
model_of w d = record {
  keys = d.keys;
  most = d.most;
  page = page_of w d;
  successors = area_of w d Successors;
  bisected = slice_index (area_of w d Header) bisected_word;
  refutes = slice_index (area_of w d Header) refutes_word;
  last = slice_index (area_of w d Header) last_word;
  phase = phase_in (area_of w d Header);
}
