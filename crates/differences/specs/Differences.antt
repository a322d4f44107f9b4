-- The first word after which two tables show different things, and what is answered to the question for it.
use Rattle.std.specs.Prelude.{◌≡◌, ℕ, List, Some, None, vec_items, Option, Vec}
use Rattle.machines.specs.Words.{Word, Keys, Less}
use Rattle.machines.specs.Tables.{shows, Same}
use Rattle.answers.specs.declared.table.Table.{Table}
use Rattle.answers.specs.Values.{keys_of, cells_of}
use Rattle.differences.specs.declared.first.DifferenceFault.{DifferenceFault}
use Rattle.differences.specs.declared.first.DifferenceFault.TheVariants.{DifferentKeys, Memory}

-- After this word of keys below k two tables show different things, and after every such word before it, shorter ones first, the same.
pub record FirstDifference (k : ℕ) (a b : List ℕ) (w : Word) : Type 0 where
  pub keys : Keys k w
  pub differ : shows k a w ≡ shows k b w → ⊥
  pub first : (v : Word) → Keys k v → Less v w → shows k a v ≡ shows k b v

-- What is found in two tables: they show the same after every word of keys, or this word is the first after which they do not.
abbrev pub Found : {Z : Type 0} → ℕ → List ℕ → List ℕ → Option (Vec ℕ Z) → Type 0
Found k a b None = Same k (shows k a) (shows k b)
Found k a b (Some w) = FirstDifference k a b (vec_items w)

-- Two tables are for as many keys, and this is found in them.
pub record Answered {Z : Type 0} (one other : Table) (r : Option (Vec ℕ Z)) : Type 0 where
  pub alike : keys_of one ≡ keys_of other
  pub found : Found (keys_of one) (cells_of one) (cells_of other) r

-- Why there is no answer: the tables are for different numbers of keys. Want of memory may always come to tables for as many keys.
abbrev pub Refused : Table → Table → DifferenceFault → Type 0
Refused one other DifferentKeys = keys_of one ≡ keys_of other → ⊥
Refused one other Memory = keys_of one ≡ keys_of other
