-- How far a search through pairs of rows has come, told by the words that lead to the pairs.
use Rattle.std.specs.Prelude.{◌≡◌, ℕ, ◌<◌, Bool, true, false, cond, ◌⊎◌, List, [], ◌∷◌, ◌++◌, length, vec_items, ◌≢◌, slice_index_or, Some, None, Option}
use Rattle.std.specs.HashSet.{contains}
use Rattle.machines.specs.Words.{Word, Keys, Less}
use Rattle.machines.specs.Tables.{walk, shows}
use Rattle.answers.specs.declared.table.Table.{Table}
use Rattle.answers.specs.Values.{keys_of, cells_of}
use Rattle.differences.specs.declared.search.Step.{Step}
use Rattle.differences.specs.declared.search.Visit.{Visit}
use Rattle.differences.specs.declared.search.Search.{Search}
use Rattle.differences.specs.Pairs.{rows_in, same_rows}
use Rattle.differences.specs.Differences.{FirstDifference}

-- The visit with which a search begins, at the first rows; it is also what is read past the end of a list of visits.
abbrev pub begin_visit : Visit
begin_visit = record { pair = record { one = record { 0 = 0 }; other = record { 0 = 0 } }; step = None }

-- The visit at a place.
abbrev pub visit_at : List Visit → ℕ → Visit
visit_at visits p = slice_index_or visits p begin_visit

-- The word at a place.
abbrev pub word_at : List Word → ℕ → Word
word_at ws p = slice_index_or ws p []

-- The word at the first place is the empty one, to which no step leads; at any other it is that of an earlier place with the step's key behind it.
abbrev pub Spelt : List Word → ℕ → Option Step → Type 0
Spelt ws p None = (p ≡ 0) × (word_at ws p ≡ [])
Spelt ws p (Some s) = (s.from < p) × (word_at ws p ≡ word_at ws s.from ++ (s.key ∷ []))

-- The visits have these words, by their steps.
pub record Linked (visits : List Visit) (ws : List Word) : Type 0 where
  pub long : length ws ≡ length visits
  pub some : 0 < length visits
  pub spelt : (p : ℕ) → p < length visits → Spelt ws p (visit_at visits p).step

-- The pair of each visit has the rows that its word leads to.
pub record Paired (k : ℕ) (a b : List ℕ) (visits : List Visit) (ws : List Word) : Type 0 where
  pub one_is : (p : ℕ) → p < length visits → (visit_at visits p).pair.one.0 ≡ walk k a 0 (word_at ws p)
  pub other_is : (p : ℕ) → p < length visits → (visit_at visits p).pair.other.0 ≡ walk k b 0 (word_at ws p)

-- The rows that a word leads to in both tables.
abbrev pub rows_at : ℕ → List ℕ → List ℕ → Word → ℕ × ℕ
rows_at k a b w = (walk k a 0 w, walk k b 0 w)

-- The rows that each word leads to are among these and no others are, and no two words lead to the same.
pub record Reached (k : ℕ) (a b : List ℕ) (ws : List Word) (among : ℕ × ℕ → Bool) : Type 0 where
  pub each : (p : ℕ) → p < length ws → among (rows_at k a b (word_at ws p)) ≡ true
  pub only : (x : ℕ × ℕ) → among x ≡ true → (p : ℕ) × (p < length ws) × (rows_at k a b (word_at ws p) ≡ x)
  pub distinct : (p q : ℕ) → p < q → q < length ws → rows_at k a b (word_at ws p) ≢ rows_at k a b (word_at ws q)

-- A word is another or comes before it, shorter words first.
abbrev pub NoLater : Word → Word → Type 0
NoLater u v = (u ≡ v) ⊎ Less u v

-- One of the words leads in both tables where v leads, and is no later.
pub record StandsFor (k : ℕ) (a b : List ℕ) (ws : List Word) (v : Word) : Type 0 where
  pub place : ℕ
  pub inside : place < length ws
  pub one_is : walk k a 0 (word_at ws place) ≡ walk k a 0 v
  pub other_is : walk k b 0 (word_at ws place) ≡ walk k b 0 v
  pub no_later : NoLater (word_at ws place) v

-- The words rise, and after each the tables show the same. Each word before place `at` with any key behind it is stood for,
-- and so is the word at `at` with any key below x; and this word with x behind it comes behind all words.
pub record Explored (k : ℕ) (a b : List ℕ) (ws : List Word) (at x : ℕ) : Type 0 where
  pub keys : (p : ℕ) → p < length ws → Keys k (word_at ws p)
  pub rising : (p q : ℕ) → p < q → q < length ws → Less (word_at ws p) (word_at ws q)
  pub alike : (p : ℕ) → p < length ws → shows k a (word_at ws p) ≡ shows k b (word_at ws p)
  pub done : (p y : ℕ) → p < length ws → y < k → (p < at) ⊎ ((p ≡ at) × (y < x)) → StandsFor k a b ws (word_at ws p ++ (y ∷ []))
  pub ahead : at < length ws → (p : ℕ) → p < length ws → Less (word_at ws p) (word_at ws at ++ (x ∷ []))

-- Whether a search has visited these rows.
abbrev pub has_visited : Search → ℕ × ℕ → Bool
has_visited s x = contains same_rows s.visited x

-- A search of two tables has come to key x of the visit at place `at`, with these words.
pub record Searched (one other : Table) (s : Search) (ws : List Word) (at x : ℕ) : Type 0 where
  pub linked : Linked (vec_items s.visits) ws
  pub paired : Paired (keys_of one) (cells_of one) (cells_of other) (vec_items s.visits) ws
  pub reached : Reached (keys_of one) (cells_of one) (cells_of other) ws (has_visited s)
  pub explored : Explored (keys_of one) (cells_of one) (cells_of other) ws at x

-- A search has come to key x of the visit at place `at`, if there is such a visit.
abbrev pub ComeTo : Search → ℕ → ℕ → Type 0
ComeTo s at x = (ws : List Word) × Searched s.product.one.now s.product.other.now s ws at x

-- A search has come to key x of the visit at place `at`, and there is such a visit.
abbrev pub GoingOn : Search → ℕ → ℕ → Type 0
GoingOn s at x = (at < length (vec_items s.visits)) × ComeTo s at x

-- The word of the visit at place `at` with key x behind it is the first after which the tables show different things.
abbrev pub EndsWith : Search → ℕ → ℕ → Type 0
EndsWith s at x =
    (at < length (vec_items s.visits))
    × ((ws : List Word) × Linked (vec_items s.visits) ws × FirstDifference (keys_of s.product.one.now) (cells_of s.product.one.now) (cells_of s.product.other.now) (word_at ws at ++ (x ∷ [])))

-- The rows of a visit are among those visited, and the visit is put behind the others, unless they were before.
pub record Visited (v : Visit) (s s' : Search) : Type 0 where
  pub among : (x : ℕ × ℕ) → has_visited s' x ≡ cond (same_rows (rows_in v.pair) x) true (has_visited s x)
  pub known : has_visited s (rows_in v.pair) ≡ true → vec_items s'.visits ≡ vec_items s.visits
  pub new : has_visited s (rows_in v.pair) ≡ false → vec_items s'.visits ≡ vec_items s.visits ++ (v ∷ [])
