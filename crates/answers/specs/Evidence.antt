-- The two answers by which two words are told apart.
use Rattle.std.specs.Prelude.{◌≡◌, ◌<◌, List, length, slice_index_or}
use Rattle.machines.specs.Words.{Word}
use Rattle.machines.specs.Answers.{Told}
use Rattle.answers.specs.declared.apart.Apart.{Apart}
use Rattle.answers.specs.Logs.{ApartBy, no_answer}

-- These two answers of a list tell u and v apart, and what stands behind both begins where u ends.
pub record Evidence (answers : List Told) (u v : Word) (e : Apart) : Type 0 where
  pub left_in : e.left < length answers
  pub right_in : e.right < length answers
  pub apart : ApartBy u v (slice_index_or answers e.left no_answer) (slice_index_or answers e.right no_answer)
  pub behind : e.from ≡ length u
