-- What was said of words, by whomever: any relation between words and numbers; and a list of answers as one such.
use Rattle.std.specs.Prelude.{◌≡◌, ℕ, ◌<◌, List, [], ◌∷◌, ◌++◌, length, ◌≢◌, slice_index_or}
use Rattle.machines.specs.Words.{Word, Keys}
use Rattle.machines.specs.Tables.{Box, Table, shows}

-- An answer: after this word the box showed that.
pub record Told : Type 0 where
  pub word : Word
  pub shown : ℕ

-- An answer is in a list.
pub data In (a : Told) : List Told → Type 0 where
  here : {rest : List Told} → In a (a ∷ rest)
  there : {b : Told} {rest : List Told} → In a rest → In a (b ∷ rest)

-- A list of answers says a number of a word if that answer is in it.
abbrev pub Said : List Told → Word → ℕ → Type 0
Said answers w m = In (record { word = w; shown = m }) answers

-- All that was said is true of a box.
abbrev pub RightOf : Box → (Word → ℕ → Type 0) → Type 0
RightOf b says = (w : Word) (m : ℕ) → says w m → b w ≡ m

-- All that was said is of words of keys below k.
abbrev pub OfKeys : ℕ → (Word → ℕ → Type 0) → Type 0
OfKeys k says = (w : Word) (m : ℕ) → says w m → Keys k w

-- A table agrees with all that was said.
abbrev pub Agrees : ℕ → Table → (Word → ℕ → Type 0) → Type 0
Agrees k t says = RightOf (shows k t) says

-- Two words are told apart: with some word behind both, two different things were said.
pub record ToldApart (says : Word → ℕ → Type 0) (u v : Word) : Type 0 where
  pub behind : Word
  pub left : ℕ
  pub right : ℕ
  pub left_said : says (u ++ behind) left
  pub right_said : says (v ++ behind) right
  pub differ : left ≡ right → ⊥

-- Any two words of a list are told apart.
abbrev pub AllApart : (Word → ℕ → Type 0) → List Word → Type 0
AllApart says ws = (i j : ℕ) → i < length ws → j < length ws → (i ≢ j) → ToldApart says (slice_index_or ws i []) (slice_index_or ws j [])

-- Two different things were said of one word.
pub record TwoAnswers (says : Word → ℕ → Type 0) : Type 0 where
  pub word : Word
  pub one : ℕ
  pub other : ℕ
  pub one_said : says word one
  pub other_said : says word other
  pub differ : one ≡ other → ⊥

-- One thing at most was said of each word.
abbrev pub Single : (Word → ℕ → Type 0) → Type 0
Single says = (w : Word) (m n : ℕ) → says w m → says w n → m ≡ n
