-- The word that a spelling stands for.
use Rattle.std.specs.Prelude.{◌≡◌, ℕ, ◌<◌, Bool, true, false, List, ◌∷◌, ◌++◌, Option, Some, None, length, take, drop}
use Rattle.machines.specs.Words.{Word}
use Rattle.spelling.specs.declared.Spelling.{Spelling}

-- A word with a key before it, if there is one.
abbrev pub key_first : Option ℕ → Word → Word
key_first None w = w
key_first (Some x) w = x ∷ w

-- The letters of the front, the key if there is one, and the letters of the rest.
abbrev pub spelt : Spelling → Word
spelt s = s.front.now ++ key_first s.key s.rest.now

-- A word stands first in a list, and behind it all is as it was.
pub record Written (w before after : List ℕ) : Type 0 where
  pub first : take (length w) after ≡ w
  pub behind : drop (length w) after ≡ drop (length w) before

-- A word was written to the front, or there was no room for it and all is as it was.
abbrev pub Puts : List ℕ → List ℕ → List ℕ → Bool → Type 0
Puts w before after true = Written w before after
Puts w before after false = (length before < length w) × (after ≡ before)
