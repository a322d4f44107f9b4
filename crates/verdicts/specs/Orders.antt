-- Answers in alphabetical order of their words.
use Rattle.std.specs.Prelude.{◌≡◌, ℕ, ◌<◌, ◌≤◌, List, length, Some, None, Option, Ok, Err, Result, ◌≢◌, slice_index, slice_index_or}
use Rattle.machines.specs.Words.{Word, Before}
use Rattle.machines.specs.Answers.{Told, ToldApart}
use Rattle.answers.specs.declared.apart.Apart.{Apart}
use Rattle.answers.specs.Logs.{no_answer}
use Rattle.answers.specs.Evidence.{Evidence}

-- The word of answer i.
abbrev pub word_at : List Told → ℕ → Word
word_at answers i = (slice_index_or answers i no_answer).word

-- What answer i says was shown.
abbrev pub shown_at : List Told → ℕ → ℕ
shown_at answers i = (slice_index_or answers i no_answer).shown

-- Numbers of answers in alphabetical order of their words, no word twice.
pub record Sorted (answers : List Told) (order : List ℕ) : Type 0 where
  pub inside : (p : ℕ) → p < length order → slice_index order p < length answers
  pub rising : (p q : ℕ) → p < q → q < length order → Before (word_at answers (slice_index order p)) (word_at answers (slice_index order q))

-- Of each word told by the first n answers just the first answer, in alphabetical order of the words.
pub record Ordered (answers : List Told) (n : ℕ) (order : List ℕ) : Type 0 where
  pub sorted : Sorted answers order
  pub early : (p : ℕ) → p < length order → slice_index order p < n
  pub every : (i : ℕ) → i < n → (p : ℕ) × (p < length order) × (word_at answers (slice_index order p) ≡ word_at answers i)
  pub first : (p i : ℕ) → p < length order → i < n → word_at answers i ≡ word_at answers (slice_index order p) → slice_index order p ≤ i

-- Of each word told just the first answer, in alphabetical order of the words.
abbrev pub Indexed : List Told → List ℕ → Type 0
Indexed answers order = Ordered answers (length answers) order

-- Place p is the first at which the word does not come before w.
pub record Placed (answers : List Told) (order : List ℕ) (w : Word) (p : ℕ) : Type 0 where
  pub fits : p ≤ length order
  pub below : (q : ℕ) → q < p → Before (word_at answers (slice_index order q)) w
  pub above : (q : ℕ) → p ≤ q → q < length order → Before (word_at answers (slice_index order q)) w → ⊥

-- At place p stands the word w.
abbrev pub StandsAt : List Told → List ℕ → Word → ℕ → Type 0
StandsAt answers order w p = (p < length order) × (word_at answers (slice_index order p) ≡ w)

-- Where a search for the word w ended: at the place where it stands, or, where it stands nowhere, at the first place at which the word does not come before w.
abbrev pub Sought : List Told → List ℕ → Word → Result ℕ ℕ → Type 0
Sought answers order w (Ok p) = Placed answers order w p × StandsAt answers order w p
Sought answers order w (Err p) = Placed answers order w p × ((q : ℕ) → StandsAt answers order w q → ⊥)

-- The answer that the order has for a word, and its place; none where it has none.
abbrev pub Found : List Told → List ℕ → Word → Option ℕ → Type 0
Found answers order w None = (p : ℕ) → StandsAt answers order w p → ⊥
Found answers order w (Some i) = (i < length answers) × (word_at answers i ≡ w) × ((p : ℕ) × (p < length order) × (slice_index order p ≡ i))

-- Answer i is the first to its word.
abbrev pub FirstAt : List Told → ℕ → Type 0
FirstAt answers i = (j : ℕ) → j < i → word_at answers j ≢ word_at answers i

-- What the first answer to each word says.
abbrev pub FirstSaid : List Told → Word → ℕ → Type 0
FirstSaid answers w m = (i : ℕ) × (i < length answers) × (word_at answers i ≡ w) × (shown_at answers i ≡ m) × FirstAt answers i

-- The first answer to w, if it says something else than m; none where it says m or there is none.
abbrev pub Other : List Told → Word → ℕ → Option ℕ → Type 0
Other answers w m None = (n : ℕ) → FirstSaid answers w n → n ≡ m
Other answers w m (Some j) = (j < length answers) × (word_at answers j ≡ w) × (m ≢ shown_at answers j) × FirstAt answers j

-- Two first answers that tell u and v apart; none where none do.
pub record BothFirst (answers : List Told) (u v : Word) (e : Apart) : Type 0 where
  pub evidence : Evidence answers u v e
  pub left_first : FirstAt answers e.left
  pub right_first : FirstAt answers e.right

-- Two first answers that tell the words apart; none where nothing does.
abbrev pub Parts : List Told → Word → Word → Option Apart → Type 0
Parts answers u v None = ToldApart (FirstSaid answers) u v → ⊥
Parts answers u v (Some e) = BothFirst answers u v e
