-- What the learner has written down: access words, suffixes, answers, and which answer belongs to which cell of the observation table. A word is a list of keys here; Pages has words as parts of a log.
use Rattle.std.specs.Prelude.{◌≡◌, ℕ, zero, suc, ◌+◌, ◌*◌, ◌/◌, ◌%◌, ◌<◌, ◌≤◌, List, [], ◌∷◌, ◌++◌, map, length, get_or, take, drop, replicate, ◌≢◌, slice_index, slice_index_or, slice_set}
use Rattle.machines.specs.Words.{Word, Keys}
use Rattle.machines.specs.Tables.{Table}
use Rattle.machines.specs.Answers.{Told}

-- An answer: to the access word of a row with the rest behind it.
pub record Answer : Type 0 where
  pub row : ℕ
  pub rest : Word
  pub shown : ℕ

-- What stands past the end of the answers.
abbrev pub no_answer : Answer
no_answer = record { row = 0; rest = []; shown = 0 }

-- Each row's edge and its access word; the suffixes; the answers, the oldest first; the cells, of edge u and suffix e at u * n + e, 0 or 1 and the number of an answer; the letters of all refuting words.
pub record Observations : Type 0 where
  pub edges : List ℕ
  pub access : List Word
  pub suffixes : List Word
  pub answers : List Answer
  pub cells : List ℕ
  pub letters : ℕ

-- How many rows there are.
abbrev pub rows : Observations → ℕ
rows b = length b.access

-- How many suffixes there are.
abbrev pub suffixes_used : Observations → ℕ
suffixes_used b = length b.suffixes

-- How many answers there are.
abbrev pub count : Observations → ℕ
count b = length b.answers

-- How many edges are in use: the empty word, and each row's access word with each key.
abbrev pub edges_used : ℕ → Observations → ℕ
edges_used k b = suc (rows b * k)

-- The access word of row i.
abbrev pub access_word : Observations → ℕ → Word
access_word b i = slice_index_or b.access i []

-- The suffix of number e.
abbrev pub suffix_word : Observations → ℕ → Word
suffix_word b e = slice_index_or b.suffixes e []

-- The edge that row j is.
abbrev pub edge_of : Observations → ℕ → ℕ
edge_of b j = slice_index b.edges j

-- Edge 0 is the empty word, edge 1 + i * k + x the access word of row i with key x behind it.
abbrev pub edge_word : ℕ → Observations → ℕ → Word
edge_word k b zero = []
edge_word k b (suc v) = access_word b (v / k) ++ (v % k ∷ [])

-- The answer of number c.
abbrev pub answer_at : Observations → ℕ → Answer
answer_at b c = slice_index_or b.answers c no_answer

-- The word that an answer is to.
abbrev pub word_of : Observations → Answer → Word
word_of b a = access_word b a.row ++ a.rest

-- The word of answer c.
abbrev pub word_at : Observations → ℕ → Word
word_at b c = word_of b (answer_at b c)

-- What answer c showed.
abbrev pub shown_at : Observations → ℕ → ℕ
shown_at b c = (answer_at b c).shown

-- The cell of edge u and suffix e.
abbrev pub cell_at : ℕ → Observations → ℕ → ℕ → ℕ
cell_at n b u e = slice_index b.cells (u * n + e)

-- What a cell says: 0 if nothing was told, else 1 and what was shown.
abbrev pub seen_by : Observations → ℕ → ℕ
seen_by b zero = 0
seen_by b (suc c) = suc (shown_at b c)

-- What is seen in the cell of edge u and suffix e.
abbrev pub seen : ℕ → Observations → ℕ → ℕ → ℕ
seen n b u e = seen_by b (cell_at n b u e)

-- A number without 1, and 0 for 0.
abbrev pub one_less : ℕ → ℕ
one_less zero = 0
one_less (suc x) = x

-- How many numbers of a list are not 0.
abbrev pub nonzero : List ℕ → ℕ
nonzero [] = 0
nonzero (zero ∷ l) = nonzero l
nonzero (suc x ∷ l) = suc (nonzero l)

-- A list of answers turned round, so that the newest is first.
abbrev pub newest_first : List Told → List Told
newest_first [] = []
newest_first (x ∷ l) = newest_first l ++ (x ∷ [])

-- An answer as a word and what was shown.
abbrev pub told_of : Observations → Answer → Told
told_of b a = record { word = word_of b a; shown = a.shown }

-- All that was told, the newest first.
unfoldable pub told : Observations → List Told
told b = newest_first (map (told_of b) b.answers)

-- Two edges show different things before some suffix.
pub record Differ (n : ℕ) (b : Observations) (u v : ℕ) : Type 0 where
  pub suffix : ℕ
  pub suffix_in : suffix < suffixes_used b
  pub left : 0 < seen n b u suffix
  pub right : 0 < seen n b v suffix
  pub other : seen n b u suffix ≡ seen n b v suffix → ⊥

-- A word that was never told of.
abbrev pub New : Observations → Word → Type 0
New b w = (c : ℕ) → c < count b → word_at b c ≢ w

-- There are no two answers to one word.
abbrev pub Once : Observations → Type 0
Once b = (c d : ℕ) → c < count b → d < count b → word_at b c ≡ word_at b d → c ≡ d

-- Keys, states, rows and suffixes are within their limits, and the lists are as long as they must be.
pub record Limits (k n : ℕ) (b : Observations) : Type 0 where
  pub keys_least : 1 ≤ k
  pub keys_most : k ≤ 64
  pub most_least : 1 ≤ n
  pub most_most : n ≤ 1024
  pub rows_least : 1 ≤ rows b
  pub rows_most : rows b ≤ n
  pub suffixes_least : 1 ≤ suffixes_used b
  pub suffixes_most : suffixes_used b ≤ n
  pub edges_long : length b.edges ≡ rows b
  pub cells_long : length b.cells ≡ suc (n * k) * n

-- A row is an edge of an earlier row, row 0 the empty word, and its access word is the word of that edge.
pub record RowSpelt (k : ℕ) (b : Observations) (j : ℕ) : Type 0 where
  pub earlier : edge_of b j < suc (j * k)
  pub word : access_word b j ≡ edge_word k b (edge_of b j)

-- A suffix is a word of keys, no longer than the letters of all refuting words.
pub record SuffixSpelt (k : ℕ) (b : Observations) (e : ℕ) : Type 0 where
  pub of_keys : Keys k (suffix_word b e)
  pub short : length (suffix_word b e) ≤ b.letters

-- An answer is to the access word of a row, and its rest is of keys and at most one longer than those letters.
pub record AnswerSpelt (k : ℕ) (b : Observations) (c : ℕ) : Type 0 where
  pub row_in : (answer_at b c).row < rows b
  pub of_keys : Keys k (answer_at b c).rest
  pub short : length (answer_at b c).rest ≤ suc b.letters

-- All words are spelt well, and the first suffix is empty.
pub record Spelt (k : ℕ) (b : Observations) : Type 0 where
  pub row : (j : ℕ) → j < rows b → RowSpelt k b j
  pub empty : suffix_word b 0 ≡ []
  pub suffix : (e : ℕ) → e < suffixes_used b → SuffixSpelt k b e
  pub answer : (c : ℕ) → c < count b → AnswerSpelt k b c

-- What a cell that isn't 0 says; so cells of edges and suffixes that are not in use are 0.
pub record InCell (k : ℕ) (b : Observations) (u e c : ℕ) : Type 0 where
  pub edge_in : u < edges_used k b
  pub suffix_in : e < suffixes_used b
  pub answer_in : c < count b
  pub word : word_at b c ≡ edge_word k b u ++ suffix_word b e

-- Each cell that isn't 0 has the answer to its word.
abbrev pub Cells : ℕ → ℕ → Observations → Type 0
Cells k n b = (u e c : ℕ) → u < suc (n * k) → e < n → cell_at n b u e ≡ suc c → InCell k b u e c

-- Any two rows differ.
abbrev pub RowsApart : ℕ → Observations → Type 0
RowsApart n b = (i j : ℕ) → i < rows b → j < rows b → (i ≢ j) → Differ n b (edge_of b i) (edge_of b j)

-- What holds of observations whatever the learner does.
pub record WellFormed (k n : ℕ) (b : Observations) : Type 0 where
  pub limits : Limits k n b
  pub spelt : Spelt k b
  pub cells : Cells k n b
  pub apart : RowsApart n b

-- Every cell in use is known.
abbrev pub Full : ℕ → ℕ → Observations → Type 0
Full k n b = (u e : ℕ) → u < edges_used k b → e < suffixes_used b → 0 < seen n b u e

-- An edge shows the same as the row that it leads to by the list of successors.
pub record LeadsToRow (n : ℕ) (b : Observations) (successors : List ℕ) (u : ℕ) : Type 0 where
  pub row_in : get_or successors u 0 < rows b
  pub same : (e : ℕ) → e < suffixes_used b → seen n b u e ≡ seen n b (edge_of b (slice_index successors u)) e

-- Every edge but the empty word leads to a row.
abbrev pub Closed : ℕ → ℕ → Observations → List ℕ → Type 0
Closed k n b successors = (v : ℕ) → v < rows b * k → LeadsToRow n b successors (suc v)

-- The row to which a word leads from row i.
abbrev pub leads_to : ℕ → List ℕ → ℕ → Word → ℕ
leads_to k successors i [] = i
leads_to k successors i (x ∷ w) = leads_to k successors (slice_index successors (suc (i * k + x))) w

-- The row to which an answer's word leads.
abbrev pub end_row : ℕ → Observations → List ℕ → ℕ → ℕ
end_row k b successors c = leads_to k successors (answer_at b c).row (answer_at b c).rest

-- What was told of each word is what is seen where it leads.
abbrev pub Agreed : ℕ → ℕ → Observations → List ℕ → Type 0
Agreed k n b successors = (c : ℕ) → c < count b → seen n b (edge_of b (end_row k b successors c)) 0 ≡ suc (shown_at b c)

-- The row to which the first p letters of the rest of answer z lead.
abbrev pub row_along : ℕ → Observations → List ℕ → ℕ → ℕ → ℕ
row_along k b successors z p = leads_to k successors (answer_at b z).row (take p (answer_at b z).rest)

-- Along an answer's word, the access word of the row to which the first p letters of its rest lead, and the remaining letters.
abbrev pub mixed_at : ℕ → Observations → List ℕ → ℕ → ℕ → Word
mixed_at k b successors z p = access_word b (row_along k b successors z p) ++ drop p (answer_at b z).rest

-- The first n values of a function.
abbrev pub tabulate : {A : Type 0} → ℕ → (ℕ → A) → List A
tabulate zero f = []
tabulate (suc n) f = f 0 ∷ tabulate n (λ x. f (suc x))

-- What stands in a row of the table that is read off: what the row shows, then where its keys lead.
abbrev pub table_entry : ℕ → ℕ → Observations → List ℕ → ℕ → ℕ → ℕ
table_entry k n b successors i zero = one_less (seen n b (edge_of b i) 0)
table_entry k n b successors i (suc x) = slice_index successors (suc (i * k + x))

-- The table that is read off.
unfoldable pub table_of : ℕ → ℕ → Observations → List ℕ → Table
table_of k n b successors = tabulate (rows b * (k + 1)) (λ p. table_entry k n b successors (p / (k + 1)) (p % (k + 1)))

-- One answer more, with l letters of refuting words from then on.
abbrev pub with_answer : Observations → Answer → ℕ → Observations
with_answer b a l = record { edges = b.edges; access = b.access; suffixes = b.suffixes; answers = b.answers ++ (a ∷ []); cells = b.cells; letters = l }

-- The same observations, with l letters of refuting words.
abbrev pub with_letters : Observations → ℕ → Observations
with_letters b l = record { edges = b.edges; access = b.access; suffixes = b.suffixes; answers = b.answers; cells = b.cells; letters = l }

-- A cell filled with an answer.
abbrev pub with_cell : ℕ → Observations → ℕ → ℕ → ℕ → Observations
with_cell n b u e c = record { edges = b.edges; access = b.access; suffixes = b.suffixes; answers = b.answers; cells = slice_set b.cells (u * n + e) (suc c); letters = b.letters }

-- A row more, from an edge.
abbrev pub with_row : ℕ → Observations → ℕ → Observations
with_row k b u =
    record { edges = b.edges ++ (u ∷ []); access = b.access ++ (edge_word k b u ∷ []); suffixes = b.suffixes; answers = b.answers; cells = b.cells; letters = b.letters }

-- A suffix more.
abbrev pub with_suffix : Observations → Word → Observations
with_suffix b w = record { edges = b.edges; access = b.access; suffixes = b.suffixes ++ (w ∷ []); answers = b.answers; cells = b.cells; letters = b.letters }

-- The answer to the word of a cell: of a suffix, or of an access word, a key and a suffix.
abbrev pub cell_answer : ℕ → Observations → ℕ → ℕ → ℕ → Answer
cell_answer k b zero e a = record { row = 0; rest = suffix_word b e; shown = a }
cell_answer k b (suc v) e a = record { row = v / k; rest = v % k ∷ suffix_word b e; shown = a }

-- The answer to a mixed word.
abbrev pub mixed_answer : ℕ → Observations → List ℕ → ℕ → ℕ → ℕ → Answer
mixed_answer k b successors z p a = record { row = row_along k b successors z p; rest = drop p (answer_at b z).rest; shown = a }

-- Observations with nothing told.
abbrev pub blank : ℕ → ℕ → Observations
blank k n = record { edges = 0 ∷ []; access = [] ∷ []; suffixes = [] ∷ []; answers = []; cells = replicate (suc (n * k) * n) 0; letters = 0 }
