-- When a table is borne out by what was said.
use Rattle.std.specs.Prelude.{◌≡◌, ℕ, ◌<◌, List, [], ◌∷◌, ◌++◌, length, get_or, ◌≢◌, slice_index_or}
use Rattle.machines.specs.Words.{Word, Keys}
use Rattle.machines.specs.Tables.{Table, Sound, next, walk}
use Rattle.machines.specs.Answers.{Agrees, ToldApart, AllApart}

-- Each row's word with a key behind it is told apart from the word of every row but the one that the key leads to.
abbrev pub Leads : ℕ → ℕ → Table → List Word → (Word → ℕ → Type 0) → Type 0
Leads k rows t ws says = (i x j : ℕ) → i < rows → x < k → j < rows → (j ≢ next k t i x) → ToldApart says (slice_index_or ws i [] ++ (x ∷ [])) (slice_index_or ws j [])

-- A table of so many rows, each with a word, is borne out by what was said: it agrees with all of it;
-- each row has a word that leads to it and of which something was said, row 0 the empty word; any two of these words are told apart;
-- and each row's word with a key behind it is told apart from the word of every row but the one that the key leads to.
pub record IsBorneOut (k rows : ℕ) (t : Table) (ws : List Word) (says : Word → ℕ → Type 0) : Type 0 where
  pub sound : Sound k rows t
  pub agrees : Agrees k t says
  pub as_many : length ws ≡ rows
  pub keys : (i : ℕ) → i < rows → Keys k (slice_index_or ws i [])
  pub reach : (i : ℕ) → i < rows → walk k t 0 (slice_index_or ws i []) ≡ i
  pub first : get_or ws 0 [] ≡ []
  pub asked : (i : ℕ) → i < rows → (m : ℕ) × says (slice_index_or ws i []) m
  pub apart : AllApart says ws
  pub leads : Leads k rows t ws says

-- What of this speaks of words alone: the rows' words are told apart, and so are the words with a key behind them from all but one.
pub record Separated (k rows : ℕ) (t : Table) (ws : List Word) (says : Word → ℕ → Type 0) : Type 0 where
  pub sound : Sound k rows t
  pub as_many : length ws ≡ rows
  pub keys : (i : ℕ) → i < rows → Keys k (slice_index_or ws i [])
  pub first : get_or ws 0 [] ≡ []
  pub apart : AllApart says ws
  pub leads : Leads k rows t ws says
