-- How numbers and words are written for people.
use Rattle.std.specs.Prelude.{ℕ, List, [], ◌∷◌, map, codes}
use Rattle.std.specs.Fmt.{decimal}
use Rattle.std.specs.List.{join_with_byte}

-- Numbers in decimal, with a blank between each two.
abbrev pub numbers_text : List ℕ → List ℕ
numbers_text ns = join_with_byte 32 (map decimal ns)

-- A word is its keys, and the empty word is named.
abbrev pub word_text : List ℕ → List ℕ
word_text [] = codes "(empty)"
word_text (k ∷ ks) = numbers_text (k ∷ ks)
