-- What a learner is for whoever calls it, and how the calls change that.
use Rattle.std.specs.Prelude.{◌≡◌, ℕ, ◌+◌, ◌*◌, ◌<◌, ◌≤◌, List, [], ◌∷◌, length}
use Rattle.machines.specs.Words.{Word, Keys}
use Rattle.machines.specs.Tables.{Table}
use Rattle.machines.specs.Answers.{Told, Said, OfKeys}
use Rattle.machines.specs.Borne.{IsBorneOut}
use Rattle.model.specs.Bits.{fine_words}

-- How many keys, the most states, all that was told (the newest first), what is waited for: nothing (0), an answer to the word 'asked' (1), a look at the table 'hypothesis' (2);
-- the rows of the last table shown, 0 before any; the letters of all words by which tables were refuted.
pub record State : Type 0 where
  pub keys : ℕ
  pub most : ℕ
  pub told : List Told
  pub waits : ℕ
  pub asked : Word
  pub hypothesis : Table
  pub rows : ℕ
  pub refuted : ℕ

-- The most words that may be told of, where refuting words have l letters.
abbrev pub most_words : ℕ → ℕ → ℕ → ℕ
most_words k n l = (k + 1) * (n * (n + 1)) + l

-- The finer bound, with as many refutations as rows, is within the one that is promised.
abbrev pub Fits : Type 0
Fits = (k n l : ℕ) → 1 ≤ k → fine_words k n n l ≤ most_words k n l

-- The words of memory that a store must have.
abbrev pub store_words : ℕ → ℕ → ℕ → ℕ
store_words k n l = 4096 + (16 * l + 64 * ((k + 1) * (n * (n + 2))))

-- The words of memory that a question or a table may need.
abbrev pub out_words : ℕ → ℕ → ℕ → ℕ
out_words k n l = (k + 1) * (n + 1) + (l + n)

-- A state with nothing told.
abbrev pub fresh : ℕ → ℕ → State
fresh k n = record { keys = k; most = n; told = []; waits = 0; asked = []; hypothesis = []; rows = 0; refuted = 0 }

-- A word is asked about.
abbrev pub asks : State → Word → State
asks st u = record { keys = st.keys; most = st.most; told = st.told; waits = 1; asked = u; hypothesis = []; rows = st.rows; refuted = st.refuted }

-- A table is shown.
abbrev pub showing : State → ℕ → Table → State
showing st rows t = record { keys = st.keys; most = st.most; told = st.told; waits = 2; asked = []; hypothesis = t; rows = rows; refuted = st.refuted }

-- An answer to the word asked about was taken.
abbrev pub hears : State → ℕ → State
hears st a =
    record { keys = st.keys; most = st.most; told = record { word = st.asked; shown = a } ∷ st.told; waits = 0; asked = []; hypothesis = []; rows = st.rows; refuted = st.refuted }

-- A refutation was taken.
abbrev pub refuted_by : State → Word → ℕ → State
refuted_by st u a =
    record { keys = st.keys; most = st.most; told = record { word = u; shown = a } ∷ st.told; waits = 0; asked = []; hypothesis = []; rows = st.rows; refuted = st.refuted + length u }

-- The word asked about is one of keys, was never told of, and there is room for its answer.
pub record Asking (st : State) : Type 0 where
  pub word_keys : Keys st.keys st.asked
  pub unknown : (m : ℕ) → Said st.told st.asked m → ⊥
  pub room : length st.told < most_words st.keys st.most st.refuted

-- What holds of every state.
pub record Stands (st : State) : Type 0 where
  pub keys_least : 1 ≤ st.keys
  pub keys_most : st.keys ≤ 64
  pub most_least : 1 ≤ st.most
  pub most_most : st.most ≤ 1024
  pub words : OfKeys st.keys (Said st.told)
  pub few : length st.told ≤ most_words st.keys st.most st.refuted
  pub fine : length st.told ≤ fine_words st.keys st.most st.most st.refuted
  pub asking : st.waits ≡ 1 → Asking st
  pub shown : st.waits ≡ 2 → (ws : List Word) × IsBorneOut st.keys st.rows st.hypothesis ws (Said st.told)
  pub rows_most : st.rows ≤ st.most
