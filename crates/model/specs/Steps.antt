-- How long words are and how many answers there can be; and that while nothing is waited for some move can be made, and after finitely many a word is asked about, a table is shown, or there are too many rows.
use Rattle.std.specs.Prelude.{◌≡◌, ℕ, suc, ◌+◌, ◌<◌, ◌≤◌, List, length}
use Rattle.model.specs.States.{asks, showing, out_words}
use Rattle.model.specs.Bits.{fine_words}
use Rattle.model.specs.Observations.{rows, count, edges_used, access_word, word_at, Full, Closed, Agreed, mixed_at}
use Rattle.model.specs.Learners.{Bisection, middle, bisecting, larger, broken, Learner, waits_in, view, Asks, AsksAlong, Valid}
use Rattle.model.specs.Moves.{Answered, OtherThanRows, WrongAt}

-- A row's access word has at most as many keys as there are rows before it.
abbrev pub RowsShort : Type 0
RowsShort = (c : Learner) → Valid c → (j : ℕ) → j < rows c.observed → length (access_word c.observed j) ≤ j

-- The word asked about is at most so long.
abbrev pub AskedShort : Type 0
AskedShort = (c : Learner) → Valid c → length (view c).asked ≤ c.observed.letters + c.most

-- What is written out has room: the word asked about, and the table shown.
pub record WrittenFits (c : Learner) : Type 0 where
  pub asked : length (view c).asked ≤ out_words c.keys c.most c.observed.letters
  pub hypothesis : length (view c).hypothesis ≤ out_words c.keys c.most c.observed.letters

-- Where there is the room that is promised, what is written out fits.
abbrev pub OutFits : Type 0
OutFits = (c : Learner) → Valid c → WrittenFits c

-- How many answers and refutations there are: each cell's, the refutations, and those of one search for each row; so their number depends on the letters only by their digits.
pub record FewAnswers (c : Learner) : Type 0 where
  pub answers : count c.observed ≤ fine_words c.keys c.most c.refutes c.observed.letters
  pub told : length (view c).told ≤ fine_words c.keys c.most c.refutes c.observed.letters
  pub refutes : c.refutes ≤ c.most

-- The answers of a valid learner are few.
abbrev pub AnswersFew : Type 0
AnswersFew = (c : Learner) → Valid c → FewAnswers c

-- While an answer or a refutation may come there is room for one more.
abbrev pub AnswersFewer : Type 0
AnswersFewer = (c : Learner) → Valid c → 0 < waits_in c.phase → count c.observed < fine_words c.keys c.most c.most c.observed.letters

-- What can be done while the table is filled: ask about a cell, fill one, add a row, show a table, or search along an answer.
pub data Turn (c : Learner) : Type 0 where
  ask : (u e : ℕ) → Asks c.keys c.most c.observed u e → Turn c
  fill : (u e d : ℕ) → Answered c.keys c.most c.observed u e d → Turn c
  grow : (u : ℕ) → u < edges_used c.keys c.observed → OtherThanRows c.most c.observed u → Turn c
  agree : (s : List ℕ) → Full c.keys c.most c.observed → Closed c.keys c.most c.observed s → Agreed c.keys c.most c.observed s → Turn c
  wrong : (s : List ℕ) (z : ℕ) → Full c.keys c.most c.observed → Closed c.keys c.most c.observed s → z < count c.observed → WrongAt c.keys c.most c.observed s z → Turn c

-- Something can be done.
abbrev pub Turns : Type 0
Turns = (c : Learner) → Valid c → Turn c

-- What can be done in a search: end it, ask about its middle, or take the answer to its middle that was told before.
pub data BisectionTurn (c : Learner) (l : Bisection) : Type 0 where
  near : l.hi ≡ suc l.lo → BisectionTurn c l
  look : AsksAlong c.keys c.observed c.successors l → BisectionTurn c l
  known : (d : ℕ) → l.lo + 1 < l.hi → d < count c.observed → word_at c.observed d ≡ mixed_at c.keys c.observed c.successors l.along (middle l) → BisectionTurn c l

-- Something can be done in a search.
abbrev pub BisectionTurns : Type 0
BisectionTurns = (c : Learner) (l : Bisection) → Valid c → c.phase ≡ bisecting l → BisectionTurn c l

-- What comes after finitely many moves: a question, a table with more rows than the last, too many rows; or there are two answers to one word already.
pub data Comes (c : Learner) : Type 0 where
  question : (d : Learner) → Valid d → waits_in d.phase ≡ 1 → view d ≡ asks (view c) (view d).asked → Comes c
  table : (d : Learner) → Valid d → waits_in d.phase ≡ 2 → view d ≡ showing (view c) (view d).rows (view d).hypothesis → (view c).rows < (view d).rows → Comes c
  too_many : (d : Learner) (u : ℕ) → Valid d → d.phase ≡ larger u → view d ≡ view c → Comes c
  two_answers : c.phase ≡ broken → Comes c

-- While nothing is waited for, something comes.
abbrev pub StepComes : Type 0
StepComes = (c : Learner) → Valid c → waits_in c.phase ≡ 0 → Comes c
