-- Numbers of two words in a list of words, low then high.
use Rattle.std.specs.Prelude.{ℕ, ◌+◌, ◌*◌, ◌/◌, ◌%◌, List, slice_index, slice_set}

-- The number that stands in word i and the next.
unfoldable pub wide : List ℕ → ℕ → ℕ
wide w i = slice_index w i + slice_index w (i + 1) * 4294967296

-- The words with the number v written to word i and the next.
unfoldable pub set_wide : List ℕ → ℕ → ℕ → List ℕ
set_wide w i v = slice_set (slice_set w i (v % 4294967296)) (i + 1) (v / 4294967296)
