-- Told words any two of which are told apart.
use Rattle.std.specs.Prelude.{ℕ, ◌<◌, ◌≤◌, List, map, length, Some, None, Option, slice_index}
use Rattle.machines.specs.Tables.{Box, OfStates}
use Rattle.machines.specs.Answers.{Told, Said, RightOf, OfKeys, ToldApart, AllApart}
use Rattle.verdicts.specs.Orders.{word_at, FirstSaid}

-- The word of answer i is told apart from those of all chosen answers.
abbrev pub ApartFromAll : List Told → List ℕ → ℕ → Type 0
ApartFromAll answers chosen i = (q : ℕ) → q < length chosen → ToldApart (FirstSaid answers) (word_at answers i) (word_at answers (slice_index chosen q))

-- The place of a chosen answer from whose word that of answer i is not told apart; none where it is told apart from all.
abbrev pub FirstAlike : List Told → List ℕ → ℕ → Option ℕ → Type 0
FirstAlike answers chosen i None = ApartFromAll answers chosen i
FirstAlike answers chosen i (Some q) = (q < length chosen) × (ToldApart (FirstSaid answers) (word_at answers i) (word_at answers (slice_index chosen q)) → ⊥)

-- Answers, by their numbers, whose words are told apart from each other. No answer could be added: its word is not told apart from some chosen one.
-- So any box that gave these answers has at least as many states.
pub record Greedy (answers : List Told) (chosen : List ℕ) : Type 0 where
  pub inside : (q : ℕ) → q < length chosen → slice_index chosen q < length answers
  pub apart : AllApart (Said answers) (map (word_at answers) chosen)
  pub full : (i : ℕ) → i < length answers → (q : ℕ) × (q < length chosen) × (ToldApart (FirstSaid answers) (word_at answers i) (word_at answers (slice_index chosen q)) → ⊥)
  pub few : (k n : ℕ) (b : Box) → OfStates k n b → RightOf b (Said answers) → OfKeys k (Said answers) → length chosen ≤ n
