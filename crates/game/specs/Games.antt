-- What is known of a game when it has ended.
use Rattle.std.specs.Prelude.{◌≡◌, ℕ, ◌+◌, ◌*◌, ◌<◌, ◌≤◌, List, length, take, Ok, Err, vec_items, sum_by, Result}
use Rattle.std.proofs.Math.Option.{some}
use Rattle.machines.specs.Words.{Word}
use Rattle.machines.specs.Tables.{shows, Same, OfStates}
use Rattle.machines.specs.Answers.{Said, RightOf}
use Rattle.model.specs.Bits.{fine_words}
use Rattle.model.specs.States.{most_words, store_words, out_words}
use Rattle.model.specs.Moves.{EdgesTold}
use Rattle.promises.specs.Calls.{Call, replay}
use Rattle.promises.specs.Promises.{Unfit, LookedAt}
use Rattle.promises.specs.Runs.{Once}
use Rattle.answers.specs.declared.table.Table.{Table}
use Rattle.answers.specs.Values.{keys_of, cells_of}
use Rattle.store.specs.Reading.{state_of}
use Rattle.game.specs.declared.transcript.Counterexample.{Counterexample}
use Rattle.game.specs.declared.transcript.Transcript.{Transcript}
use Rattle.game.specs.declared.referee.Loss.{Loss}
use Rattle.game.specs.declared.playing.Game.{Game}
use Rattle.game.specs.declared.playing.GameFault.{GameFault}
use Rattle.game.specs.declared.playing.GameFault.TheVariants.{Few, Short, Full, Larger, Memory}
use Rattle.game.specs.Counterexamples.{Refutation, refutation_of, refuted_of, Refuting}
use Rattle.game.specs.Courses.{Course, words_of}

-- What comes of a game by how it ended.
abbrev pub finished : Result ℕ Loss → Transcript → Result Game GameFault
finished (Ok rows) t = Ok (record { rows = rows; transcript = t })
finished (Err Loss.Larger) t = Err (Larger t)
finished (Err Loss.Short) t = Err (Short t)
finished (Err (Loss.Full x)) t = Err (Full t x)
finished (Err Loss.Memory) t = Err Memory

-- How many letters the refuting words have in all.
abbrev pub letters_of : List Refutation → ℕ
letters_of xs = sum_by (λ (x : Refutation). length x.word) xs

-- The store holds what the calls say, and the transcript counts it: all that was told is what the machine shows, each word once; so many words were asked about and so many tables refuted, which is within both bounds.
pub record Recorded (k n : ℕ) (machine w : List ℕ) (t : Transcript) (cs : List Call) : Type 0 where
  pub course : Course k n machine w t cs
  pub holds : state_of w ≡ some (replay k n cs)
  pub right : RightOf (shows k machine) (Said (replay k n cs).told)
  pub once : Once (replay k n cs).told
  pub counted : length (replay k n cs).told ≡ words_of t
  pub letters : t.letters ≡ letters_of (refuted_of t)
  pub few : words_of t ≤ most_words k n t.letters
  pub fine : words_of t ≤ fine_words k n n t.letters

-- The table of so many rows that stands first in out.
abbrev pub first_table : ℕ → ℕ → List ℕ → List ℕ
first_table k rows o = take (rows * (k + 1)) o

-- The store is long enough, with so much room, for the machine's keys and so many states.
abbrev pub Fit : Table → ℕ → ℕ → List ℕ → Type 0
Fit m n room w = Unfit (keys_of m) n room w → ⊥

-- The table that stands first in out shows what the machine shows after every word of keys; no table for the machine has fewer rows, and the machine is one of so many states;
-- the table is borne out by what was told, has no more rows than are allowed, fewer tables were refuted, and the store holds that it is looked at.
pub record Learnt (m : Table) (n room : ℕ) (w₀ w o : List ℕ) (g : Game) : Type 0 where
  pub fit : Fit m n room w₀
  pub calls : List Call
  pub recorded : Recorded (keys_of m) n (cells_of m) w g.transcript calls
  pub right : Same (keys_of m) (shows (keys_of m) (first_table (keys_of m) g.rows o)) (shows (keys_of m) (cells_of m))
  pub least : (s : ℕ) → OfStates (keys_of m) s (shows (keys_of m) (cells_of m)) → g.rows ≤ s
  pub states : OfStates (keys_of m) g.rows (shows (keys_of m) (cells_of m))
  pub borne : (ws : List Word) × EdgesTold (keys_of m) g.rows (first_table (keys_of m) g.rows o) ws (Said (replay (keys_of m) n calls).told)
  pub allowed : g.rows ≤ n
  pub fewer : length (refuted_of g.transcript) < g.rows
  pub looked : LookedAt (replay (keys_of m) n calls) g.rows (first_table (keys_of m) g.rows o)

-- The store was not begun: the states or its length are unfit, and all is as it was.
pub record NotBegun (m : Table) (n room : ℕ) (w₀ w o₀ o : List ℕ) : Type 0 where
  pub unfit : Unfit (keys_of m) n room w₀
  pub store_kept : w ≡ w₀
  pub out_kept : o ≡ o₀

-- Out is too short for the letters so far.
pub record OutShort (m : Table) (n : ℕ) (w o : List ℕ) (t : Transcript) : Type 0 where
  pub calls : List Call
  pub recorded : Recorded (keys_of m) n (cells_of m) w t calls
  pub short : length o < out_words (keys_of m) n t.letters

-- The store has no room for the word that refutes the table that is looked at.
pub record StoreFull (m : Table) (n : ℕ) (w : List ℕ) (t : Transcript) (x : Counterexample) : Type 0 where
  pub calls : List Call
  pub recorded : Recorded (keys_of m) n (cells_of m) w t calls
  pub waits : (replay (keys_of m) n calls).waits ≡ 2
  pub looked : (replay (keys_of m) n calls).hypothesis ≡ vec_items x.hypothesis
  pub refuting : Refuting (keys_of m) (cells_of m) (refutation_of x)
  pub full : length w < store_words (keys_of m) n (t.letters + length (vec_items x.word))

-- Every table for the machine has more rows than are allowed.
pub record MachineLarger (m : Table) (n : ℕ) (w : List ℕ) (t : Transcript) : Type 0 where
  pub calls : List Call
  pub recorded : Recorded (keys_of m) n (cells_of m) w t calls
  pub larger : (s : ℕ) → OfStates (keys_of m) s (shows (keys_of m) (cells_of m)) → n < s

-- Why no table was learnt. Want of memory may always come to a store that is long enough.
abbrev pub Failed : Table → ℕ → ℕ → List ℕ → List ℕ → List ℕ → List ℕ → GameFault → Type 0
Failed m n room w₀ w o₀ o Few = NotBegun m n room w₀ w o₀ o
Failed m n room w₀ w o₀ o (Short t) = Fit m n room w₀ × OutShort m n w o t
Failed m n room w₀ w o₀ o (Full t x) = Fit m n room w₀ × StoreFull m n w t x
Failed m n room w₀ w o₀ o (Larger t) = Fit m n room w₀ × MachineLarger m n w t
Failed m n room w₀ w o₀ o Memory = Fit m n room w₀
