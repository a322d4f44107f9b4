-- How a log is read: as a list of answers.
use Rattle.std.specs.Prelude.{◌≡◌, ℕ, Bool, cond, ◌<◌, List, Option, Some, None, slice_index_or, [], ◌∷◌, ◌++◌, map, length, drop, vec_items}
use Rattle.machines.specs.Words.{Word}
use Rattle.machines.specs.Answers.{Told}
use Rattle.answers.specs.declared.log.Answer.{Answer}
use Rattle.answers.specs.declared.log.Log.{Log}

-- What an answer says.
abbrev pub told_of : Answer → Told
told_of a = record { word = vec_items a.word; shown = a.shown }

-- What answers say, in their order.
abbrev pub told : List Answer → List Told
told answers = map told_of answers

-- What a log holds.
abbrev pub told_in : Log → List Told
told_in log = told (vec_items log.answers)

-- One answer more, if it was taken.
abbrev pub added : Bool → List Told → Word → ℕ → List Told
added taken answers w m = cond taken (answers ++ (record { word = w; shown = m } ∷ [])) answers

-- Two words go on behind u and v with the same letters.
pub record GoOnAlike (u v a b : Word) : Type 0 where
  pub left : a ≡ u ++ drop (length u) a
  pub right : b ≡ v ++ drop (length u) a

-- Two answers tell u and v apart: they go on behind u and v with the same letters, and say different things.
pub record ApartBy (u v : Word) (a b : Told) : Type 0 where
  pub alike : GoOnAlike u v a.word b.word
  pub differ : a.shown ≡ b.shown → ⊥

-- What is read past the end of a list of answers.
abbrev pub no_answer : Told
no_answer = record { word = []; shown = 0 }

-- An answer that tells u and v apart with answer a; none where none does.
abbrev pub Partner : Word → Word → Told → List Told → Option ℕ → Type 0
Partner u v a answers None = (j : ℕ) → j < length answers → ApartBy u v a (slice_index_or answers j no_answer) → ⊥
Partner u v a answers (Some j) = (j < length answers) × ApartBy u v a (slice_index_or answers j no_answer)
