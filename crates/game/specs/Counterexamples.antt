-- Tables that a machine refutes, and the transcript that has them.
use Rattle.std.specs.Prelude.{◌≡◌, ℕ, ◌+◌, ◌≤◌, List, [], ◌∷◌, ◌++◌, map, length, vec_items}
use Rattle.machines.specs.Words.{Word}
use Rattle.machines.specs.Tables.{Sound, shows}
use Rattle.differences.specs.Differences.{FirstDifference}
use Rattle.game.specs.declared.transcript.Counterexample.{Counterexample}
use Rattle.game.specs.declared.transcript.Transcript.{Transcript}

-- A table, a word, and what a machine shows after it.
pub record Refutation : Type 0 where
  pub hypothesis : List ℕ
  pub word : Word
  pub shown : ℕ

-- What a counterexample says.
abbrev pub refutation_of : Counterexample → Refutation
refutation_of c = record { hypothesis = vec_items c.hypothesis; word = vec_items c.word; shown = c.shown }

-- The tables refuted, the oldest first.
abbrev pub refuted_of : Transcript → List Refutation
refuted_of t = map refutation_of (vec_items t.counterexamples)

-- The word is the first after which the machine does not show what the table shows, and the machine shows that.
pub record Refuting (k : ℕ) (machine : List ℕ) (c : Refutation) : Type 0 where
  pub first : FirstDifference k c.hypothesis machine c.word
  pub shown : c.shown ≡ shows k machine c.word

-- A counterexample to the table with these numbers.
pub record Counters (k : ℕ) (machine numbers : List ℕ) (c : Counterexample) : Type 0 where
  pub hypothesis : vec_items c.hypothesis ≡ numbers
  pub refuting : Refuting k machine (refutation_of c)

-- These numbers are those of a table that is not too large.
abbrev pub TableNumbers : ℕ → List ℕ → Type 0
TableNumbers k numbers = (rows : ℕ) × Sound k rows numbers × (1 ≤ k) × (k ≤ 64) × (rows ≤ 1048576)

-- A transcript of nothing.
pub record Empty (t : Transcript) : Type 0 where
  pub asked : t.asked ≡ 0
  pub letters : t.letters ≡ 0
  pub refuted : refuted_of t ≡ []

-- One table more was refuted.
pub record Adds (c : Counterexample) (t t' : Transcript) : Type 0 where
  pub asked : t'.asked ≡ t.asked
  pub letters : t'.letters ≡ t.letters + length (vec_items c.word)
  pub refuted : refuted_of t' ≡ refuted_of t ++ (refutation_of c ∷ [])
