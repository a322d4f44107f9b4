-- What follows from answers that are right: the theorems, as types, for any relation between words and numbers.
use Rattle.std.specs.Prelude.{◌≡◌, ℕ, ◌≤◌, List, [], length, ◌≢◌, slice_index_or}
use Rattle.machines.specs.Words.{Word, Keys}
use Rattle.machines.specs.Tables.{Box, Table, Sound, walk, shows, Same, OfStates}
use Rattle.machines.specs.Answers.{RightOf, OfKeys, Agrees, ToldApart, AllApart}
use Rattle.machines.specs.Borne.{IsBorneOut, Separated}

-- Words that were told apart lead to different rows in every table for a box of which all is right.
abbrev pub ApartLeadsApart : (Word → ℕ → Type 0) → Type 0
ApartLeadsApart says = (k n : ℕ) (b : Box) (t : Table) (u v : Word) → Sound k n t → Same k (shows k t) b → RightOf b says → OfKeys k says → ToldApart says u v → walk k t 0 u ≢ walk k t 0 v

-- Words any two of which are told apart are no more than any table for such a box has rows.
abbrev pub ApartWordsFew : (Word → ℕ → Type 0) → Type 0
ApartWordsFew says = (k n : ℕ) (b : Box) (ws : List Word) → OfStates k n b → RightOf b says → OfKeys k says → AllApart says ws → length ws ≤ n

-- A table that is borne out has at most as many rows as any table for the box.
abbrev pub BorneLeast : (Word → ℕ → Type 0) → Type 0
BorneLeast says = (k n rows : ℕ) (b : Box) (t : Table) (ws : List Word) → OfStates k n b → RightOf b says → OfKeys k says → IsBorneOut k rows t ws says → rows ≤ n

-- If it has as many, it shows what the box shows, after every word.
abbrev pub BorneRight : (Word → ℕ → Type 0) → Type 0
BorneRight says = (k n rows : ℕ) (b : Box) (t : Table) (ws : List Word) → OfStates k n b → RightOf b says → OfKeys k says → IsBorneOut k rows t ws says → n ≤ rows → Same k (shows k t) b

-- In any table of at most as many rows that agrees with what was said, each word leads where the word of the row leads to which it leads in ours.
abbrev pub LeadsAlike : (Word → ℕ → Type 0) → Type 0
LeadsAlike says = (k rows n : ℕ) (t other : Table) (ws : List Word) → Separated k rows t ws says → Sound k n other → n ≤ rows → Agrees k other says → (w : Word) → Keys k w → walk k other 0 w ≡ walk k other 0 (slice_index_or ws (walk k t 0 w) [])

-- A box of m states is one of n states for every n from m on.
abbrev pub MoreStates : Type 0
MoreStates = (k m n : ℕ) (b : Box) → m ≤ n → OfStates k m b → OfStates k n b
