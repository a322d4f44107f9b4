-- The numbers that tokens begin with.
use Rattle.std.specs.Prelude.{◌≡◌, ℕ, List, [], ◌∷◌, ◌++◌, map}
use Rattle.formats.specs.declared.scan.Token.{Token}
use Rattle.formats.specs.declared.scan.Token.TheVariants.{Number, Colon, At}

-- The tokens are at their end or begin with a mark.
abbrev pub BeginsWithNoNumber : List Token → Type 0
BeginsWithNoNumber [] = Unit
BeginsWithNoNumber (Number n ∷ ts) = ⊥
BeginsWithNoNumber (Colon ∷ ts) = Unit
BeginsWithNoNumber (At ∷ ts) = Unit

-- The tokens ts are the numbers ns and then rest, which no number begins.
pub record IsNumbersThen (ts : List Token) (ns : List ℕ) (rest : List Token) : Type 0 where
  pub whole : ts ≡ map Number ns ++ rest
  pub no_more : BeginsWithNoNumber rest
