-- The learner: its observations, its successors, its counters and what it is doing; and what holds of every learner.
use Rattle.std.specs.Prelude.{◌≡◌, ℕ, ◌+◌, ◌-◌, ◌*◌, ◌/◌, ◌<◌, ◌≤◌, List, [], ◌++◌, length, drop, ◌≢◌}
use Rattle.machines.specs.Words.{Word}
use Rattle.machines.specs.Tables.{Table}
use Rattle.model.specs.States.{State}
use Rattle.model.specs.Bits.{bits}
use Rattle.model.specs.Observations.{
  Observations,
  rows,
  suffixes_used,
  count,
  edges_used,
  access_word,
  suffix_word,
  edge_word,
  answer_at,
  word_at,
  shown_at,
  cell_at,
  nonzero,
  told,
  New,
  Once,
  WellFormed,
  Full,
  Closed,
  Agreed,
  mixed_at,
  table_of,
}

-- A search by halves along the answer 'along': the answers 'left' and 'right' to the mixed words at lo and hi differ.
pub record Bisection : Type 0 where
  pub along : ℕ
  pub lo : ℕ
  pub hi : ℕ
  pub left : ℕ
  pub right : ℕ

-- The place in the middle.
abbrev pub middle : Bisection → ℕ
middle l = (l.lo + l.hi) / 2

-- What a learner is doing: filling the table, asking about a cell, showing a table, searching by halves, asking about a middle, or done: the box is larger, or there are two answers to one word.
pub data Phase : Type 0 where
  filling : Phase
  asks_cell : (u e : ℕ) → Phase
  shows_table : Phase
  bisecting : Bisection → Phase
  asks_middle : Bisection → Phase
  larger : ℕ → Phase
  broken : Phase

-- For each edge, successors has the row that it leads to in the last table read off; bisected: answers got in searches by halves; refutes: refutations; last: rows of the last table shown.
pub record Learner : Type 0 where
  pub keys : ℕ
  pub most : ℕ
  pub observed : Observations
  pub successors : List ℕ
  pub bisected : ℕ
  pub refutes : ℕ
  pub last : ℕ
  pub phase : Phase

-- What is waited for: nothing, an answer, or a look at a table.
abbrev pub waits_in : Phase → ℕ
waits_in filling = 0
waits_in (asks_cell u e) = 1
waits_in shows_table = 2
waits_in (bisecting l) = 0
waits_in (asks_middle l) = 1
waits_in (larger u) = 0
waits_in broken = 0

-- The word asked about.
abbrev pub asked_in : ℕ → Observations → List ℕ → Phase → Word
asked_in k b successors filling = []
asked_in k b successors (asks_cell u e) = edge_word k b u ++ suffix_word b e
asked_in k b successors shows_table = []
asked_in k b successors (bisecting l) = []
asked_in k b successors (asks_middle l) = mixed_at k b successors l.along (middle l)
asked_in k b successors (larger u) = []
asked_in k b successors broken = []

-- The table shown.
abbrev pub hypothesis_in : ℕ → ℕ → Observations → List ℕ → Phase → Table
hypothesis_in k n b successors filling = []
hypothesis_in k n b successors (asks_cell u e) = []
hypothesis_in k n b successors shows_table = table_of k n b successors
hypothesis_in k n b successors (bisecting l) = []
hypothesis_in k n b successors (asks_middle l) = []
hypothesis_in k n b successors (larger u) = []
hypothesis_in k n b successors broken = []

-- What the learner is for others.
abbrev pub view : Learner → State
view c =
    record {
      keys = c.keys;
      most = c.most;
      told = told c.observed;
      waits = waits_in c.phase;
      asked = asked_in c.keys c.observed c.successors c.phase;
      hypothesis = hypothesis_in c.keys c.most c.observed c.successors c.phase;
      rows = c.last;
      refuted = c.observed.letters;
    }

-- Each answer filled a cell, refuted a table, or was got in a search by halves.
pub record Counted (b : Observations) (bisected refutes last : ℕ) : Type 0 where
  pub narrow : suffixes_used b ≤ rows b
  pub all : count b ≤ nonzero b.cells + (refutes + bisected)
  pub tables : refutes ≤ last
  pub shown : last ≤ rows b
  pub halved : bisected ≤ rows b * bits b.letters

-- While the table is filled one search is in hand, and there is one more row than in the last table shown.
pub record Fills (b : Observations) (bisected last : ℕ) : Type 0 where
  pub once : Once b
  pub more : last < rows b
  pub spare : bisected + bits b.letters ≤ rows b * bits b.letters

-- The cell asked about is in use, unknown, and its word was never told of.
pub record Asks (k n : ℕ) (b : Observations) (u e : ℕ) : Type 0 where
  pub edge_in : u < edges_used k b
  pub suffix_in : e < suffixes_used b
  pub unknown : cell_at n b u e ≡ 0
  pub unasked : New b (edge_word k b u ++ suffix_word b e)

-- The table shown is read off a full and closed table that agrees with every answer.
pub record Shows (k n : ℕ) (b : Observations) (successors : List ℕ) (bisected refutes last : ℕ) : Type 0 where
  pub once : Once b
  pub all_rows : last ≡ rows b
  pub unrefuted : refutes < last
  pub spare : bisected + bits b.letters ≤ rows b * bits b.letters
  pub full : Full k n b
  pub closed : Closed k n b successors
  pub agreed : Agreed k n b successors

-- A search by halves: the answers to the mixed words at both ends differ, and few places are left to ask about.
pub record Bisects (k n : ℕ) (b : Observations) (successors : List ℕ) (bisected : ℕ) (l : Bisection) : Type 0 where
  pub once : Once b
  pub full : Full k n b
  pub closed : Closed k n b successors
  pub along_in : l.along < count b
  pub order : l.lo < l.hi
  pub within : l.hi ≤ length (answer_at b l.along).rest
  pub left_in : l.left < count b
  pub right_in : l.right < count b
  pub left_word : word_at b l.left ≡ mixed_at k b successors l.along l.lo
  pub right_word : word_at b l.right ≡ mixed_at k b successors l.along l.hi
  pub other : shown_at b l.left ≡ shown_at b l.right → ⊥
  pub few : bisected + bits (l.hi - l.lo - 1) ≤ rows b * bits b.letters

-- The middle asked about lies between the ends, and its word was never told of.
pub record AsksAlong (k : ℕ) (b : Observations) (successors : List ℕ) (l : Bisection) : Type 0 where
  pub wide : l.lo + 1 < l.hi
  pub unasked : New b (mixed_at k b successors l.along (middle l))

-- Two words u and v are told apart by the answers c and d: both are followed by what stands behind u in the word of c.
pub record SplitBy (b : Observations) (u v : Word) (c d : ℕ) : Type 0 where
  pub left : word_at b c ≡ u ++ drop (length u) (word_at b c)
  pub right : word_at b d ≡ v ++ drop (length u) (word_at b c)
  pub other : shown_at b c ≡ shown_at b d → ⊥

-- Two words are told apart by some two answers.
abbrev pub SplitWords : Observations → Word → Word → Type 0
SplitWords b u v = (c : ℕ) × (c < count b) × ((d : ℕ) × (d < count b) × SplitBy b u v c d)

-- There are as many rows as there may be, and the word of one more edge is told apart from all access words.
pub record TooMany (k n : ℕ) (b : Observations) (u : ℕ) : Type 0 where
  pub edge_in : u < edges_used k b
  pub all_rows : rows b ≡ n
  pub apart : (j : ℕ) → j < rows b → SplitWords b (edge_word k b u) (access_word b j)

-- Two answers to one word differ.
abbrev pub Breaks : Observations → Type 0
Breaks b = (c : ℕ) × (c < count b) × ((d : ℕ) × (d < count b) × ((word_at b c ≡ word_at b d) × (shown_at b c ≢ shown_at b d)))

-- What holds in each phase.
abbrev pub InPhase : ℕ → ℕ → Observations → List ℕ → ℕ → ℕ → ℕ → Phase → Type 0
InPhase k n b successors bisected refutes last filling = Fills b bisected last
InPhase k n b successors bisected refutes last (asks_cell u e) = Fills b bisected last × Asks k n b u e
InPhase k n b successors bisected refutes last shows_table = Shows k n b successors bisected refutes last
InPhase k n b successors bisected refutes last (bisecting l) = Bisects k n b successors bisected l
InPhase k n b successors bisected refutes last (asks_middle l) = Bisects k n b successors bisected l × AsksAlong k b successors l
InPhase k n b successors bisected refutes last (larger u) = TooMany k n b u
InPhase k n b successors bisected refutes last broken = Breaks b

-- What holds of every learner.
pub record Valid (c : Learner) : Type 0 where
  pub formed : WellFormed c.keys c.most c.observed
  pub counted : Counted c.observed c.bisected c.refutes c.last
  pub phased : InPhase c.keys c.most c.observed c.successors c.bisected c.refutes c.last c.phase
