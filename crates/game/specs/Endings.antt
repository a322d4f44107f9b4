-- What is known after a round of a game, and when it ends.
use Rattle.std.specs.Prelude.{◌≡◌, ℕ, ◌+◌, ◌*◌, ◌<◌, List, length, take, Some, None, Ok, Err, vec_items, Option, Result}
use Rattle.machines.specs.Words.{Word, Keys}
use Rattle.machines.specs.Tables.{shows, Same, OfStates}
use Rattle.model.specs.States.{store_words, out_words}
use Rattle.promises.specs.Calls.{Call, replay}
use Rattle.answers.specs.declared.table.Table.{Table}
use Rattle.answers.specs.Values.{keys_of, cells_of}
use Rattle.game.specs.declared.transcript.Transcript.{Transcript}
use Rattle.game.specs.declared.referee.Loss.{Loss}
use Rattle.game.specs.declared.referee.Loss.TheVariants.{Larger, Short, Full, Memory}
use Rattle.game.specs.declared.referee.Referee.{Referee}
use Rattle.game.specs.Counterexamples.{refutation_of, Refuting}
use Rattle.game.specs.Courses.{Course, Looked, most_in, words_of}

-- The referee's game goes on.
abbrev pub Going : Referee → List ℕ → Type 0
Going r w = (cs : List Call) × Course (keys_of r.machine.now) (most_in w) (cells_of r.machine.now) w r.transcript cs

-- The learner waits for what is shown after this word of keys.
abbrev pub Asked : Referee → List ℕ → Word → Type 0
Asked r w u =
    let k = keys_of r.machine.now in
    (cs : List Call) × Course k (most_in w) (cells_of r.machine.now) w r.transcript cs × ((replay k (most_in w) cs).waits ≡ 1) × ((replay k (most_in w) cs).asked ≡ u) × Keys k u

-- The learner waits for a look at the table of so many rows with these numbers.
abbrev pub Showing : Referee → List ℕ → ℕ → List ℕ → Type 0
Showing r w rows numbers =
    let k = keys_of r.machine.now in
    (cs : List Call) × Course k (most_in w) (cells_of r.machine.now) w r.transcript cs × Looked k (most_in w) (cells_of r.machine.now) rows numbers cs

-- One more word was told of, and the game against the machine goes on.
pub record Onward (r r' : Referee) (w w' : List ℕ) : Type 0 where
  pub machine : r'.machine.now ≡ r.machine.now
  pub going : Going r' w'
  pub most : most_in w' ≡ most_in w
  pub more : words_of r'.transcript ≡ words_of r.transcript + 1

-- How a game ended, with n states allowed: the table that stands first in out shows what the machine shows; every table for the machine has more rows than n;
-- out is too short; the store has no room for the word that refutes the table that is looked at. Want of memory may always come.
abbrev pub Ended : Table → ℕ → List ℕ → List ℕ → Transcript → Result ℕ Loss → Type 0
Ended m n w o t (Ok rows) =
    (cs : List Call) × Course (keys_of m) n (cells_of m) w t cs × Looked (keys_of m) n (cells_of m) rows (take (rows * (keys_of m + 1)) o) cs
    × Same (keys_of m) (shows (keys_of m) (take (rows * (keys_of m + 1)) o)) (shows (keys_of m) (cells_of m))
Ended m n w o t (Err Larger) = (cs : List Call) × Course (keys_of m) n (cells_of m) w t cs × ((s : ℕ) → OfStates (keys_of m) s (shows (keys_of m) (cells_of m)) → n < s)
Ended m n w o t (Err Short) = (cs : List Call) × Course (keys_of m) n (cells_of m) w t cs × (length o < out_words (keys_of m) n t.letters)
Ended m n w o t (Err (Full x)) =
    (cs : List Call) × Course (keys_of m) n (cells_of m) w t cs × ((replay (keys_of m) n cs).waits ≡ 2) × ((replay (keys_of m) n cs).hypothesis ≡ vec_items x.hypothesis)
    × Refuting (keys_of m) (cells_of m) (refutation_of x) × (length w < store_words (keys_of m) n (t.letters + length (vec_items x.word)))
Ended m n w o t (Err Memory) = Unit {0}

-- What a round came to: the game goes on, or it ended.
abbrev pub Turned : Referee → Referee → List ℕ → List ℕ → List ℕ → Result (Option ℕ) Loss → Type 0
Turned r r' w w' o (Ok None) = Onward r r' w w'
Turned r r' w w' o (Ok (Some rows)) = Ended r.machine.now (most_in w) w' o r'.transcript (Ok rows)
Turned r r' w w' o (Err loss) = Ended r.machine.now (most_in w) w' o r'.transcript (Err loss)
