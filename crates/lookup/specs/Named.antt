-- Words of a store given by a row, perhaps a key, and a part of the log; and the answers to them.
use Rattle.std.specs.Prelude.{◌≡◌, ℕ, ◌+◌, ◌<◌, ◌≤◌, List, [], ◌++◌, length, take, drop, Some, None, Option, slice_index, slice_index_or}
use Rattle.machines.specs.Words.{Word}
use Rattle.areas.specs.declared.area.Area.{Area}
use Rattle.areas.specs.declared.records.Record.{Record}
use Rattle.areas.specs.declared.area.Area.TheVariants.{Header, Answers}
use Rattle.areas.specs.Layout.{Dims, area_of}
use Rattle.areas.specs.Records.{record_in}
use Rattle.model.specs.Observations.{Observations, count, word_at, New}
use Rattle.model.specs.Pages.{Page, part, keyed}
use Rattle.store.specs.Decoding.{answers_word, page_of}

-- A part of an area, as far as the area goes.
abbrev pub part_of : List ℕ → Dims → Area → ℕ → ℕ → List ℕ
part_of w d a from size = take size (drop from (area_of w d a))

-- The key, if there is one, and a part of the log.
abbrev pub named_rest : Page → Record → Word
named_rest p r = keyed r.key (part p.log (record { start = r.start; size = r.size }))

-- The word of a row, perhaps with a key behind it, and behind these a part of the log.
abbrev pub named_word : Page → Record → Word
named_word p r = slice_index_or p.access r.row [] ++ keyed r.key (part p.log (record { start = r.start; size = r.size }))

-- The row is one of the page's, and the part lies within the log.
pub record Named (p : Page) (r : Record) : Type 0 where
  pub row_in : r.row < length p.access
  pub part_in : r.start + r.size ≤ length p.log

-- The answer to a word; none where it was never told of.
abbrev pub AnswerTo : Observations → Word → Option ℕ → Type 0
AnswerTo b w None = New b w
AnswerTo b w (Some c) = (c < count b) × (word_at b c ≡ w)

-- Each answer is to a word of a row and a part of the log.
abbrev pub AllNamed : List ℕ → Dims → Type 0
AllNamed w d = (c : ℕ) → c < slice_index (area_of w d Header) answers_word → Named (page_of w d) (record_in (area_of w d Answers) c)
