-- Observations as they are kept: the letters of refuting words stand in one log that only grows; suffixes and answers name parts of it.
use Rattle.std.specs.Prelude.{ℕ, zero, suc, ◌+◌, ◌-◌, ◌*◌, ◌/◌, ◌%◌, ◌<◌, ◌≤◌, List, [], ◌∷◌, ◌++◌, map, length, take, drop, replicate, slice_index_or, slice_set}
use Rattle.machines.specs.Words.{Word}
use Rattle.model.specs.Observations.{Answer, Observations, edge_word, leads_to}

-- A part of the log.
pub record Span : Type 0 where
  pub start : ℕ
  pub size : ℕ

-- The part with no letters.
abbrev pub no_span : Span
no_span = record { start = 0; size = 0 }

-- An answer as it is kept: a row, 0 or 1 and a key, a part of the log, and what was shown.
pub record Entry : Type 0 where
  pub row : ℕ
  pub key : ℕ
  pub span : Span
  pub shown : ℕ

-- What stands past the end of the entries.
abbrev pub no_entry : Entry
no_entry = record { row = 0; key = 0; span = no_span; shown = 0 }

-- The log; each row's edge and its access word, as its own list of keys; the suffixes, the entries and the cells.
pub record Page : Type 0 where
  pub log : List ℕ
  pub edges : List ℕ
  pub access : List Word
  pub suffixes : List Span
  pub entries : List Entry
  pub cells : List ℕ

-- The letters of a part.
abbrev pub part : List ℕ → Span → Word
part log s = take s.size (drop s.start log)

-- A word with a key before it, if there is one.
abbrev pub keyed : ℕ → Word → Word
keyed zero w = w
keyed (suc x) w = x ∷ w

-- The answer that an entry is.
abbrev pub answer_of : List ℕ → Entry → Answer
answer_of log a = record { row = a.row; rest = keyed a.key (part log a.span); shown = a.shown }

-- The observations that a page is.
abbrev pub observations_of : Page → Observations
observations_of p =
    record { edges = p.edges; access = p.access; suffixes = map (part p.log) p.suffixes; answers = map (answer_of p.log) p.entries; cells = p.cells; letters = length p.log }

-- The suffix of number e, as a part of the log.
abbrev pub suffix_span : Page → ℕ → Span
suffix_span p e = slice_index_or p.suffixes e no_span

-- The entry of number c.
abbrev pub entry_at : Page → ℕ → Entry
entry_at p c = slice_index_or p.entries c no_entry

-- A part lies within the log.
abbrev pub Within : List ℕ → Span → Type 0
Within log s = s.start + s.size ≤ length log

-- All parts lie within the log.
pub record Spans (p : Page) : Type 0 where
  pub suffixes : (e : ℕ) → e < length p.suffixes → Within p.log (suffix_span p e)
  pub entries : (c : ℕ) → c < length p.entries → Within p.log (entry_at p c).span

-- An entry more.
abbrev pub add_entry : Page → Entry → Page
add_entry p a = record { log = p.log; edges = p.edges; access = p.access; suffixes = p.suffixes; entries = p.entries ++ (a ∷ []); cells = p.cells }

-- Letters added to the log.
abbrev pub add_letters : Page → Word → Page
add_letters p w = record { log = p.log ++ w; edges = p.edges; access = p.access; suffixes = p.suffixes; entries = p.entries; cells = p.cells }

-- The entry of a refuting word whose letters are added to a log of l letters.
abbrev pub refuting_entry : ℕ → Word → ℕ → Entry
refuting_entry l w a = record { row = 0; key = 0; span = record { start = l; size = length w }; shown = a }

-- A refuting word: its letters, and an entry that names them.
abbrev pub add_refuting : Page → Word → ℕ → Page
add_refuting p w a = add_entry (add_letters p w) (refuting_entry (length p.log) w a)

-- A cell filled with an answer.
abbrev pub set_cell : ℕ → Page → ℕ → ℕ → ℕ → Page
set_cell n p u e c = record { log = p.log; edges = p.edges; access = p.access; suffixes = p.suffixes; entries = p.entries; cells = slice_set p.cells (u * n + e) (suc c) }

-- A row more, from an edge.
abbrev pub add_row : ℕ → Page → ℕ → Page
add_row k p u =
    record { log = p.log; edges = p.edges ++ (u ∷ []); access = p.access ++ (edge_word k (observations_of p) u ∷ []); suffixes = p.suffixes; entries = p.entries; cells = p.cells }

-- A suffix more.
abbrev pub add_suffix : Page → Span → Page
add_suffix p s = record { log = p.log; edges = p.edges; access = p.access; suffixes = p.suffixes ++ (s ∷ []); entries = p.entries; cells = p.cells }

-- A page with nothing told.
abbrev pub blank_page : ℕ → ℕ → Page
blank_page k n = record { log = []; edges = 0 ∷ []; access = [] ∷ []; suffixes = no_span ∷ []; entries = []; cells = replicate (suc (n * k) * n) 0 }

-- A part without its first p letters.
abbrev pub later : Span → ℕ → Span
later s p = record { start = s.start + p; size = s.size - p }

-- The part behind the first p letters of an entry's rest, the key among them.
abbrev pub behind : ℕ → Span → ℕ → Span
behind zero s p = later s p
behind (suc x) s p = later s (p - 1)

-- The part behind the first q letters of the rest of entry z.
abbrev pub span_behind : Page → ℕ → ℕ → Span
span_behind p z q = behind (entry_at p z).key (entry_at p z).span q

-- The entry for the answer to a cell's word.
abbrev pub cell_entry : ℕ → Page → ℕ → ℕ → ℕ → Entry
cell_entry k p zero e a = record { row = 0; key = 0; span = suffix_span p e; shown = a }
cell_entry k p (suc v) e a = record { row = v / k; key = suc (v % k); span = suffix_span p e; shown = a }

-- The entry for the answer to a mixed word; its row is computed along the rest of entry z.
abbrev pub mixed_entry : ℕ → Page → List ℕ → ℕ → ℕ → ℕ → Entry
mixed_entry k p successors z q a =
    record { row = leads_to k successors (entry_at p z).row (take q (keyed (entry_at p z).key (part p.log (entry_at p z).span))); key = 0; span = span_behind p z q; shown = a }
