-- The answer or the row that a line's tokens are, or what is wrong with them.
use Rattle.std.specs.Prelude.{ℕ, List, [], ◌∷◌, ◌++◌, Some, None, Ok, Err, vec_items, Option, Result}
use Rattle.formats.specs.Calls.{◌then◌}
use Rattle.formats.specs.declared.answers.AnswerLine.{AnswerLine}
use Rattle.formats.specs.declared.faults.LineFault.{LineFault}
use Rattle.formats.specs.declared.faults.LineFault.TheVariants.{NoColon, SecondColon, AtInAnswer, NothingShown, MuchShown, NoNumber, ColonInRow, SecondAt}
use Rattle.formats.specs.declared.rows.RowLine.{RowLine}
use Rattle.formats.specs.declared.scan.Token.{Token}
use Rattle.formats.specs.declared.scan.Token.TheVariants.{Number, Colon, At}
use Rattle.std.specs.Option.{option_map}

-- An answer: the word of keys, and what was shown after it.
pub record Answer : Type 0 where
  pub word : List ℕ
  pub shown : ℕ

-- A row: what it shows and where each key leads, and perhaps a word.
pub record Row : Type 0 where
  pub numbers : List ℕ
  pub word : Option (List ℕ)

-- The answer that a line holds.
abbrev pub answer_in : AnswerLine → Answer
answer_in a = record { word = vec_items a.word; shown = a.shown }

-- The row that a line holds.
abbrev pub row_in : RowLine → Row
row_in r = record { numbers = vec_items r.numbers; word = option_map vec_items r.word }

-- What was shown, from the tokens after ':'.
abbrev pub one_shown : List Token → Result ℕ LineFault
one_shown [] = Err NothingShown
one_shown (Number n ∷ []) = Ok n
one_shown (Colon ∷ []) = Err SecondColon
one_shown (At ∷ []) = Err AtInAnswer
one_shown (t ∷ u ∷ ts) = Err MuchShown

-- The answer of the keys w and the tokens after them.
abbrev pub answer_on : List ℕ → List Token → Result Answer LineFault
answer_on w [] = Err NoColon
answer_on w (Number k ∷ ts) = answer_on (w ++ k ∷ []) ts
answer_on w (Colon ∷ ts) = one_shown ts then (λ n. Ok (record { word = w; shown = n }))
answer_on w (At ∷ ts) = Err AtInAnswer

-- The answer that a line's tokens are.
abbrev pub line_answer : List Token → Result Answer LineFault
line_answer ts = answer_on [] ts

-- The word of the keys w and the tokens after them, all after '@'.
abbrev pub word_on : List ℕ → List Token → Result (List ℕ) LineFault
word_on w [] = Ok w
word_on w (Number k ∷ ts) = word_on (w ++ k ∷ []) ts
word_on w (Colon ∷ ts) = Err ColonInRow
word_on w (At ∷ ts) = Err SecondAt

-- The row of some numbers and perhaps a word: at least what it shows is there.
abbrev pub row_of : List ℕ → Option (List ℕ) → Result Row LineFault
row_of [] w = Err NoNumber
row_of (n ∷ ns) w = Ok (record { numbers = n ∷ ns; word = w })

-- The row of the numbers ns and the tokens after them.
abbrev pub row_on : List ℕ → List Token → Result Row LineFault
row_on ns [] = row_of ns None
row_on ns (Number n ∷ ts) = row_on (ns ++ n ∷ []) ts
row_on ns (Colon ∷ ts) = Err ColonInRow
row_on ns (At ∷ ts) = word_on [] ts then (λ w. row_of ns (Some w))

-- The row that a line's tokens are.
abbrev pub line_row : List Token → Result Row LineFault
line_row ts = row_on [] ts
