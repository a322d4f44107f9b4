-- What is proved of learners: of each move, that it leads from valid ones to valid ones, and what the learner is then for others.
use Rattle.std.specs.Prelude.{◌≡◌, ℕ, suc, ◌+◌, ◌*◌, ◌<◌, ◌≤◌, List, [], ◌∷◌, ◌++◌, length, drop, ◌≢◌, slice_index, slice_index_or}
use Rattle.std.proofs.Math.Decide.{ℕ_discrete}
use Rattle.machines.specs.Words.{Word, Keys}
use Rattle.machines.specs.Tables.{Table, next, shows}
use Rattle.machines.specs.Answers.{Said, AllApart, ToldApart, TwoAnswers}
use Rattle.machines.specs.Borne.{IsBorneOut}
use Rattle.model.specs.States.{State, Stands, fresh, asks, showing, hears, refuted_by}
use Rattle.model.specs.Observations.{
  Observations,
  rows,
  suffixes_used,
  count,
  edges_used,
  suffix_word,
  edge_of,
  edge_word,
  answer_at,
  word_at,
  shown_at,
  cell_at,
  seen,
  one_less,
  Differ,
  New,
  Full,
  Closed,
  end_row,
  Agreed,
  row_along,
  mixed_at,
  table_of,
  with_answer,
  with_cell,
  with_row,
  with_suffix,
  cell_answer,
  mixed_answer,
  blank,
}
use Rattle.model.specs.Learners.{Bisection, middle, Phase, filling, asks_cell, shows_table, bisecting, asks_middle, larger, broken, Learner, view, Asks, AsksAlong, Valid}

-- A learner is valid and is for others as the state says.
pub record StandsAs (c : Learner) (st : State) : Type 0 where
  pub valid : Valid c
  pub is : view c ≡ st

-- Of every valid learner all holds that is promised of states.
abbrev pub ValidStands : Type 0
ValidStands = (c : Learner) → Valid c → Stands (view c)

-- A learner with all but its keys and the most states replaced.
abbrev pub changed : Learner → Observations → List ℕ → ℕ → ℕ → ℕ → Phase → Learner
changed c b successors bisected refutes last p = record { keys = c.keys; most = c.most; observed = b; successors = successors; bisected = bisected; refutes = refutes; last = last; phase = p }

-- A learner in another phase.
abbrev pub in_phase : Learner → Phase → Learner
in_phase c p = changed c c.observed c.successors c.bisected c.refutes c.last p

-- A learner with other observations, filling the table.
abbrev pub filling_with : Learner → Observations → Learner
filling_with c b = changed c b c.successors c.bisected c.refutes c.last filling

-- A learner with nothing told, and any successors.
abbrev pub begun : ℕ → ℕ → List ℕ → Learner
begun k n successors = record { keys = k; most = n; observed = blank k n; successors = successors; bisected = 0; refutes = 0; last = 0; phase = filling }

-- A learner begins.
abbrev pub Begins : Type 0
Begins = (k n : ℕ) (successors : List ℕ) → 1 ≤ k → k ≤ 64 → 1 ≤ n → n ≤ 1024 → StandsAs (begun k n successors) (fresh k n)

-- A cell is asked about.
abbrev pub AsksACell : Type 0
AsksACell =
    (c : Learner) (u e : ℕ) → Valid c → c.phase ≡ filling → Asks c.keys c.most c.observed u e
    → StandsAs (in_phase c (asks_cell u e)) (asks (view c) (edge_word c.keys c.observed u ++ suffix_word c.observed e))

-- The learner after the answer to a cell's word.
abbrev pub hear_cell : Learner → ℕ → ℕ → ℕ → Learner
hear_cell c u e a =
    filling_with c (with_cell c.most (with_answer c.observed (cell_answer c.keys c.observed u e a) c.observed.letters) u e (count c.observed))

-- A cell is answered.
abbrev pub HearsACell : Type 0
HearsACell = (c : Learner) (u e a : ℕ) → Valid c → c.phase ≡ asks_cell u e → StandsAs (hear_cell c u e a) (hears (view c) a)

-- The answer of number d is to the word of the cell of u and e, which is in use and unknown.
pub record Answered (k n : ℕ) (b : Observations) (u e d : ℕ) : Type 0 where
  pub edge_in : u < edges_used k b
  pub suffix_in : e < suffixes_used b
  pub unknown : cell_at n b u e ≡ 0
  pub answer_in : d < count b
  pub word : word_at b d ≡ edge_word k b u ++ suffix_word b e

-- A cell takes an answer told before.
abbrev pub FillsACell : Type 0
FillsACell =
    (c : Learner) (u e d : ℕ) → Valid c → c.phase ≡ filling → Answered c.keys c.most c.observed u e d
    → StandsAs (filling_with c (with_cell c.most c.observed u e d)) (view c)

-- An edge differs from all rows.
abbrev pub OtherThanRows : ℕ → Observations → ℕ → Type 0
OtherThanRows n b u = (j : ℕ) → j < rows b → Differ n b u (edge_of b j)

-- An edge that differs from all rows becomes a row.
abbrev pub AddsARow : Type 0
AddsARow =
    (c : Learner) (u : ℕ) → Valid c → c.phase ≡ filling → u < edges_used c.keys c.observed → OtherThanRows c.most c.observed u → rows c.observed < c.most
    → StandsAs (filling_with c (with_row c.keys c.observed u)) (view c)

-- An edge that differs from as many rows as there may be shows that the box is larger.
abbrev pub FindsTooMany : Type 0
FindsTooMany =
    (c : Learner) (u : ℕ) → Valid c → c.phase ≡ filling → u < edges_used c.keys c.observed → OtherThanRows c.most c.observed u → rows c.observed ≡ c.most
    → StandsAs (in_phase c (larger u)) (view c)

-- Words of keys, any two of which are told apart.
pub record ApartWords (k : ℕ) (says : Word → ℕ → Type 0) (ws : List Word) : Type 0 where
  pub apart : AllApart says ws
  pub of_keys : (i : ℕ) → i < length ws → Keys k (slice_index_or ws i [])

-- What 'larger' shows: one more word than there may be states.
abbrev pub LargerSays : Type 0
LargerSays = (c : Learner) (u : ℕ) → Valid c → c.phase ≡ larger u → (ws : List Word) × ApartWords c.keys (Said (view c).told) ws × (length ws ≡ c.most + 1)

-- What 'broken' shows.
abbrev pub BrokenSays : Type 0
BrokenSays = (c : Learner) → Valid c → c.phase ≡ broken → TwoAnswers (Said (view c).told)

-- While the table is filled, successors may be written over.
abbrev pub SetsSuccessors : Type 0
SetsSuccessors =
    (c : Learner) (successors : List ℕ) → Valid c → c.phase ≡ filling → StandsAs (changed c c.observed successors c.bisected c.refutes c.last filling) (view c)

-- The learner that shows the table read off.
abbrev pub shown_by : Learner → List ℕ → Learner
shown_by c successors = changed c c.observed successors c.bisected c.refutes (rows c.observed) shows_table

-- A full and closed table that agrees with every answer is shown, and has more rows than the last one.
abbrev pub ShowsATable : Type 0
ShowsATable =
    (c : Learner) (successors : List ℕ) → Valid c → c.phase ≡ filling → Full c.keys c.most c.observed → Closed c.keys c.most c.observed successors
    → Agreed c.keys c.most c.observed successors
    → StandsAs (shown_by c successors) (showing (view c) (rows c.observed) (table_of c.keys c.most c.observed successors)) × ((view c).rows < rows c.observed)

-- The search along answer z begins at its two ends.
abbrev pub first_bisection : ℕ → ℕ → Observations → List ℕ → ℕ → Bisection
first_bisection k n b successors z =
    record { along = z; lo = 0; hi = length (answer_at b z).rest; left = z; right = one_less (cell_at n b (edge_of b (end_row k b successors z)) 0) }

-- The table read off does not show what answer z showed.
abbrev pub WrongAt : ℕ → ℕ → Observations → List ℕ → ℕ → Type 0
WrongAt k n b successors z = seen n b (edge_of b (end_row k b successors z)) 0 ≡ suc (shown_at b z) → ⊥

-- The learner that begins to search along answer z.
abbrev pub bisect_along : Learner → List ℕ → ℕ → Learner
bisect_along c successors z =
    changed c c.observed successors c.bisected c.refutes c.last (bisecting (first_bisection c.keys c.most c.observed successors z))

-- An answer with which a full and closed table doesn't agree is searched along.
abbrev pub StartsABisection : Type 0
StartsABisection =
    (c : Learner) (successors : List ℕ) (z : ℕ) → Valid c → c.phase ≡ filling → Full c.keys c.most c.observed → Closed c.keys c.most c.observed successors
    → z < count c.observed → WrongAt c.keys c.most c.observed successors z
    → StandsAs (bisect_along c successors z) (view c)

-- The observations after a refutation.
abbrev pub refuted_observations : Observations → Word → ℕ → Observations
refuted_observations b w a = with_answer b (record { row = 0; rest = w; shown = a }) (b.letters + length w)

-- The learner after the refutation by a word never told of.
abbrev pub refute : Learner → Word → ℕ → Learner
refute c w a =
    changed c (refuted_observations c.observed w a) c.successors c.bisected (suc c.refutes) c.last
    (bisecting (first_bisection c.keys c.most (refuted_observations c.observed w a) c.successors (count c.observed)))

-- The learner after the refutation by a word told of before.
abbrev pub break_by : Learner → Word → ℕ → Learner
break_by c w a = changed c (refuted_observations c.observed w a) c.successors c.bisected (suc c.refutes) c.last broken

-- The table shown is refuted by a word of keys.
pub record Refuted (c : Learner) (w : Word) (a : ℕ) : Type 0 where
  pub shown : c.phase ≡ shows_table
  pub of_keys : Keys c.keys w
  pub wrong : shows c.keys (view c).hypothesis w ≡ a → ⊥

-- A refutation by a word never told of: the word is searched along.
abbrev pub RefutesAnew : Type 0
RefutesAnew = (c : Learner) (w : Word) (a : ℕ) → Valid c → Refuted c w a → New c.observed w → StandsAs (refute c w a) (refuted_by (view c) w a)

-- A refutation by a word told of before: then there are two answers to it.
abbrev pub RefutesTold : Type 0
RefutesTold =
    (c : Learner) (w : Word) (a d : ℕ) → Valid c → Refuted c w a → d < count c.observed → word_at c.observed d ≡ w → StandsAs (break_by c w a) (refuted_by (view c) w a)

-- One of two searches, by a decision.
abbrev pub chosen : {P : Type 0} → Dec P → Bisection → Bisection → Bisection
chosen (yes p) a b = a
chosen (no np) a b = b

-- The upper half of a search, where answer d is to the middle's word.
abbrev pub upper_half : Bisection → ℕ → Bisection
upper_half l d = record { along = l.along; lo = middle l; hi = l.hi; left = d; right = l.right }

-- The lower half of a search, where answer d is to the middle's word.
abbrev pub lower_half : Bisection → ℕ → Bisection
lower_half l d = record { along = l.along; lo = l.lo; hi = middle l; left = l.left; right = d }

-- The half of a search in which the answers at the ends still differ, where answer d is to the middle's word.
abbrev pub narrowed : Observations → Bisection → ℕ → Bisection
narrowed b l d = chosen (ℕ_discrete (shown_at b d) (shown_at b l.left)) (upper_half l d) (lower_half l d)

-- The middle of a search is asked about.
abbrev pub AsksAMiddle : Type 0
AsksAMiddle =
    (c : Learner) (l : Bisection) → Valid c → c.phase ≡ bisecting l → AsksAlong c.keys c.observed c.successors l
    → StandsAs (in_phase c (asks_middle l)) (asks (view c) (mixed_at c.keys c.observed c.successors l.along (middle l)))

-- The observations after the answer to a middle's word.
abbrev pub heard_observations : Learner → Bisection → ℕ → Observations
heard_observations c l a = with_answer c.observed (mixed_answer c.keys c.observed c.successors l.along (middle l) a) c.observed.letters

-- The learner after the answer to a middle's word.
abbrev pub hear_middle : Learner → Bisection → ℕ → Learner
hear_middle c l a =
    changed c (heard_observations c l a) c.successors (suc c.bisected) c.refutes c.last (bisecting (narrowed (heard_observations c l a) l (count c.observed)))

-- The middle of a search is answered.
abbrev pub HearsAMiddle : Type 0
HearsAMiddle = (c : Learner) (l : Bisection) (a : ℕ) → Valid c → c.phase ≡ asks_middle l → StandsAs (hear_middle c l a) (hears (view c) a)

-- The middle of a search takes an answer told before.
abbrev pub Narrows : Type 0
Narrows =
    (c : Learner) (l : Bisection) (d : ℕ) → Valid c → c.phase ≡ bisecting l → l.lo + 1 < l.hi → d < count c.observed
    → word_at c.observed d ≡ mixed_at c.keys c.observed c.successors l.along (middle l)
    → StandsAs (in_phase c (bisecting (narrowed c.observed l d))) (view c)

-- The edge at the place where a search has ended.
abbrev pub last_edge : ℕ → Observations → List ℕ → Bisection → ℕ
last_edge k b successors l = suc (row_along k b successors l.along l.lo * k + slice_index (answer_at b l.along).rest l.lo)

-- The observations after a search: the rest behind its place is a suffix, the edge there and the row that it led to have a cell each, and the edge is a row.
abbrev pub split_observations : ℕ → ℕ → Observations → List ℕ → Bisection → Observations
split_observations k n b successors l =
    with_row k
    (with_cell n (with_cell n (with_suffix b (drop l.hi (answer_at b l.along).rest)) (last_edge k b successors l) (suffixes_used b) l.left)
    (edge_of b (slice_index successors (last_edge k b successors l)))
    (suffixes_used b)
    l.right)
    (last_edge k b successors l)

-- A search ends with one more row and one more suffix.
abbrev pub EndsABisection : Type 0
EndsABisection =
    (c : Learner) (l : Bisection) → Valid c → c.phase ≡ bisecting l → l.hi ≡ suc l.lo → rows c.observed < c.most
    → StandsAs (filling_with c (split_observations c.keys c.most c.observed c.successors l)) (view c)

-- A search ends where there are as many rows as there may be: the box is larger.
abbrev pub EndsTooMany : Type 0
EndsTooMany =
    (c : Learner) (l : Bisection) → Valid c → c.phase ≡ bisecting l → l.hi ≡ suc l.lo → rows c.observed ≡ c.most
    → StandsAs (in_phase c (larger (last_edge c.keys c.observed c.successors l))) (view c)

-- A table is borne out, and access words with a key behind them that lead to different rows are told apart.
pub record EdgesTold (k rows : ℕ) (t : Table) (ws : List Word) (says : Word → ℕ → Type 0) : Type 0 where
  pub borne : IsBorneOut k rows t ws says
  pub edges : (i x j y : ℕ) → i < rows → x < k → j < rows → y < k → (next k t i x ≢ next k t j y) → ToldApart says (slice_index_or ws i [] ++ (x ∷ [])) (slice_index_or ws j [] ++ (y ∷ []))

-- While a table is shown it is borne out by the access words, and their edges that lead to different rows are told apart.
abbrev pub EdgesApart : Type 0
EdgesApart = (c : Learner) → Valid c → c.phase ≡ shows_table → EdgesTold c.keys (view c).rows (view c).hypothesis c.observed.access (Said (view c).told)
