-- Told words that lead to rows.
use Rattle.std.specs.Prelude.{◌≡◌, ℕ, ◌+◌, ◌<◌, ◌≤◌, ◌⊎◌, List, ◌++◌, length, Some, None, Option, slice_index, slice_index_or}
use Rattle.machines.specs.Words.{Word, Keys, Less}
use Rattle.machines.specs.Tables.{Table, walk}
use Rattle.machines.specs.Answers.{Told}
use Rattle.verdicts.specs.declared.choice.Candidate.{Candidate}
use Rattle.verdicts.specs.Orders.{word_at, Indexed}

-- A word leads to a row.
abbrev pub LeadsHere : ℕ → Table → ℕ → Word → Type 0
LeadsHere k t row w = Keys k w × (walk k t 0 w ≡ row)

-- The words of the order that begin with the one at place p are the n from there on.
pub record Followers (answers : List Told) (order : List ℕ) (p n : ℕ) : Type 0 where
  pub fits : p + n ≤ length order
  pub inside : (q : ℕ) → p ≤ q → q < p + n → (x : Word) × (word_at answers (slice_index order q) ≡ word_at answers (slice_index order p) ++ x)
  pub all : (q : ℕ) (x : Word) → q < length order → word_at answers (slice_index order q) ≡ word_at answers (slice_index order p) ++ x → (p ≤ q) × (q < p + n)

-- The word at place p, with m followers, goes before the one at place q, with n: it has more of them, or as many and is first, shorter ones first.
abbrev pub Better : List Told → List ℕ → ℕ → ℕ → ℕ → ℕ → Type 0
Better answers order p m q n = (n < m) ⊎ ((m ≡ n) × Less (word_at answers (slice_index order p)) (word_at answers (slice_index order q)))

-- Of the first n places of the order whose words lead to the row, none goes before place p, which has m followers.
pub record Best (k : ℕ) (t : Table) (answers : List Told) (order : List ℕ) (row n p m : ℕ) : Type 0 where
  pub place_in : p < n
  pub leads : LeadsHere k t row (word_at answers (slice_index order p))
  pub followers : Followers answers order p m
  pub first : (q f : ℕ) → q < n → LeadsHere k t row (word_at answers (slice_index order q)) → Followers answers order q f → Better answers order q f p m → ⊥

-- The best candidate for a row among the first n places of the order; none where no word there leads to the row.
abbrev pub CandidateFor : ℕ → Table → List Told → List ℕ → ℕ → ℕ → Option Candidate → Type 0
CandidateFor k t answers order row n None = (p : ℕ) → p < n → LeadsHere k t row (word_at answers (slice_index order p)) → ⊥
CandidateFor k t answers order row n (Some c) = Best k t answers order row n c.place c.followers

-- A candidate, if there is one, is at a place of the order.
abbrev pub PlacedIn : List ℕ → Option Candidate → Type 0
PlacedIn order None = Unit {0}
PlacedIn order (Some c) = c.place < length order

-- The better of two candidates, the new one where there is no old one.
abbrev pub BetterOf : List Told → List ℕ → Option Candidate → Candidate → Candidate → Type 0
BetterOf answers order None new c = c ≡ new
BetterOf answers order (Some old) new c =
    ((c ≡ new) × Better answers order new.place new.followers old.place old.followers)
    ⊎ ((c ≡ old) × (Better answers order new.place new.followers old.place old.followers → ⊥))

-- The answer for a row: of the told words that lead to it the one that the most told words begin with, and of these the first; none where no told word leads to the row.
abbrev pub WordFor : ℕ → Table → List Told → ℕ → Option ℕ → Type 0
WordFor k t answers row None = (i : ℕ) → i < length answers → LeadsHere k t row (word_at answers i) → ⊥
WordFor k t answers row (Some i) = (order : List ℕ) × (p : ℕ) × (m : ℕ) × Indexed answers order × Best k t answers order row (length order) p m × (i ≡ slice_index order p)

-- An answer for each of the first n rows.
pub record WordsFor (k : ℕ) (t : Table) (answers : List Told) (n : ℕ) (chosen : List (Option ℕ)) : Type 0 where
  pub long : length chosen ≡ n
  pub each : (row : ℕ) → row < n → WordFor k t answers row (slice_index_or chosen row None)
