-- How many letters and states a memory has room for.
use Rattle.std.specs.Prelude.{◌≡◌, ℕ, ◌+◌, ◌<◌, ◌≤◌, ◌⊎◌, Some, None, Option}
use Rattle.model.specs.States.{store_words}

-- So many words of memory are enough for k keys, n states and so many letters.
pub record Enough (k n room words : ℕ) : Type 0 where
  pub some_keys : 1 ≤ k
  pub few_keys : k ≤ 64
  pub some_states : 1 ≤ n
  pub few_states : n ≤ 1024
  pub long : store_words k n room ≤ words

-- The most letters, up to 4,294,967,295, for which so many words are enough; none where they are not enough without letters.
abbrev pub RoomIn : ℕ → ℕ → ℕ → Option ℕ → Type 0
RoomIn k n words None = Enough k n 0 words → ⊥
RoomIn k n words (Some room) = Enough k n room words × (room < 4294967295 → Enough k n (room + 1) words → ⊥)

-- The most states for which so many words are enough; 0 where they are enough for none.
pub record MostStates (k words n : ℕ) : Type 0 where
  pub enough : (n ≡ 0) ⊎ Enough k n 0 words
  pub most : (m : ℕ) → n < m → Enough k m 0 words → ⊥
