-- A memory that was laid out anew.
use Rattle.std.specs.Prelude.{◌≡◌, ℕ, ◌≤◌, List, length, slice_index_or}
use Rattle.areas.specs.declared.area.Area.TheVariants.{Header, Successors}
use Rattle.areas.specs.Words.{wide}
use Rattle.areas.specs.Layout.{Dims, area_of}
use Rattle.model.specs.States.{store_words}
use Rattle.model.specs.Models.{model_begun}
use Rattle.store.specs.Decoding.{store_mark, mark_word, keys_word, most_word, letters_word, model_of}

-- Keys and states within the limits, and a memory that is long enough.
pub record Fit (k n room : ℕ) (w : List ℕ) : Type 0 where
  pub some_keys : 1 ≤ k
  pub few_keys : k ≤ 64
  pub some_states : 1 ≤ n
  pub few_states : n ≤ 1024
  pub long : store_words k n room ≤ length w

-- A memory is marked, holds its keys and states, and its model is one with nothing told.
pub record LaidOut (w w' : List ℕ) (d : Dims) : Type 0 where
  pub model : model_of w' d ≡ model_begun d.keys d.most (area_of w' d Successors)
  pub mark : slice_index_or w' mark_word 0 ≡ store_mark
  pub keys : slice_index_or w' keys_word 0 ≡ d.keys
  pub most : slice_index_or w' most_word 0 ≡ d.most
  pub no_letters : wide (area_of w' d Header) letters_word ≡ 0
  pub long : length w' ≡ length w
