-- Phases and searches as values, and as the model has them.
use Rattle.std.specs.Prelude.{ℕ, List, slice_set}
use Rattle.areas.specs.Words.{set_wide}
use Rattle.model.specs.Learners as learner
use Rattle.model.specs.Learners.{filling, asks_cell, shows_table, bisecting, asks_middle, larger, broken, Bisection}
use Rattle.store.specs.Decoding.{first_word, second_word, third_word, low_word, high_word}
use Rattle.moves.specs.declared.phase.Search.{Search}
use Rattle.moves.specs.declared.phase.Phase.{Phase}
use Rattle.moves.specs.declared.phase.Phase.TheVariants.{Filling, AsksCell, ShowsTable, Bisecting, AsksMiddle, Larger, Broken}

-- The search of the model that a value is.
abbrev pub search_value : Search → Bisection
search_value s = record { along = s.along; lo = s.low; hi = s.high; left = s.left; right = s.right }

-- The phase of the model that a value is.
abbrev pub phase_value : Phase → learner.Phase
phase_value Filling = filling
phase_value (AsksCell u e) = asks_cell u.0 e
phase_value ShowsTable = shows_table
phase_value (Bisecting s) = bisecting (search_value s)
phase_value (AsksMiddle s) = asks_middle (search_value s)
phase_value (Larger u) = larger u.0
phase_value Broken = broken

-- A header with a search written.
unfoldable pub set_search : List ℕ → Search → List ℕ
set_search h s = set_wide (set_wide (slice_set (slice_set (slice_set h first_word s.along) second_word s.left) third_word s.right) low_word s.low) high_word s.high
