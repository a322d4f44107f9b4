-- Records of eight words in the answers: how one is read, and what writing one leaves.
use Rattle.std.specs.Prelude.{◌≡◌, ℕ, ◌+◌, ◌*◌, ◌<◌, List, length, ◌≢◌, slice_index, slice_set}
use Rattle.areas.specs.declared.area.Area.TheVariants.{Answers}
use Rattle.areas.specs.declared.records.Record.{Record}
use Rattle.areas.specs.Words.{wide, set_wide}
use Rattle.areas.specs.Layout.{Dims, answer_count, area_of}
use Rattle.areas.specs.Frames.{Rewritten}

-- The record that begins with a word of a list.
unfoldable pub record_from : List ℕ → ℕ → Record
record_from xs at = record { row = slice_index xs at; key = slice_index xs (at + 1); start = wide xs (at + 2); size = wide xs (at + 4); shown = slice_index xs (at + 6) }

-- Record i of a list.
abbrev pub record_in : List ℕ → ℕ → Record
record_in xs i = record_from xs (8 * i)

-- A list with a record written from a word on.
unfoldable pub set_record_from : List ℕ → ℕ → Record → List ℕ
set_record_from xs at r = slice_set (set_wide (set_wide (slice_set (slice_set xs at r.row) (at + 1) r.key) (at + 2) r.start) (at + 4) r.size) (at + 6) r.shown

-- A list with record i written.
abbrev pub set_record : List ℕ → ℕ → Record → List ℕ
set_record xs i r = set_record_from xs (8 * i) r

-- Record i of the answers was written: it is read back, and all other records and areas stay.
pub record SavedRecord (w w' : List ℕ) (d : Dims) (i : ℕ) (r : Record) : Type 0 where
  pub frame : Rewritten w w' d Answers (set_record (area_of w d Answers) i r)
  pub back : length w ≡ d.length → i < answer_count d.keys d.most → record_in (area_of w' d Answers) i ≡ r
  pub others : (j : ℕ) → (j ≢ i) → record_in (area_of w' d Answers) j ≡ record_in (area_of w d Answers) j
