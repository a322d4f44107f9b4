-- The tokens that a line's bytes are read as, or the line's first fault.
use Rattle.std.specs.Prelude.{ℕ, ◌+◌, ◌-◌, ◌*◌, Bool, cond, ◌||◌, List, [], ◌∷◌, ◌++◌, Some, None, Ok, Err, vec_items, Option, Result, ◌==◌, nat_le}
use Rattle.formats.specs.Calls.{◌then◌}
use Rattle.formats.specs.declared.faults.LineFault.{LineFault}
use Rattle.formats.specs.declared.faults.LineFault.TheVariants.{OtherCharacter, LargeNumber}
use Rattle.formats.specs.declared.scan.Digits.{Digits}
use Rattle.formats.specs.declared.scan.Kind.{Kind}
use Rattle.formats.specs.declared.scan.Kind.TheVariants.{Digit, Blank, Mark, Other}
use Rattle.formats.specs.declared.scan.Reader.{Reader}
use Rattle.formats.specs.declared.scan.Token.{Token}
use Rattle.formats.specs.declared.scan.Token.TheVariants.{Number, Colon, At}
use Rattle.std.specs.Option.{unwrap_or}
use Rattle.std.specs.Char.{is_ascii_digit}

-- Space, tab and carriage return are blanks.
abbrev pub blank : ℕ → Bool
blank b = b == 32 || (b == 9 || b == 13)

-- What a byte is in a line: a digit, a blank, ':', '@' or another character.
abbrev pub kind : ℕ → Kind
kind b = cond (is_ascii_digit b) (Digit (b - 48)) (cond (blank b) Blank (cond (b == 58) (Mark Colon) (cond (b == 64) (Mark At) Other)))

-- What is read of a line so far: the tokens, and the digits of a number that may go on.
pub record Sofar : Type 0 where
  pub tokens : List Token
  pub digits : Option Digits

-- What a reader has read.
abbrev pub held : Reader → Sofar
held r = record { tokens = vec_items r.tokens; digits = r.digits }

-- The number that ends where no digit follows.
abbrev pub ended : Option Digits → List Token
ended None = []
ended (Some ds) = Number ds.value ∷ []

-- What is read once no digit follows.
abbrev pub closed : Sofar → Sofar
closed s = record { tokens = s.tokens ++ ended s.digits; digits = None }

-- A number with a digit more, if it is not too large.
abbrev pub longer : List Token → Digits → ℕ → Result Sofar LineFault
longer ts ds d = cond (nat_le (ds.value * 10 + d) 4294967295) (Ok (record { tokens = ts; digits = Some (record { value = ds.value * 10 + d; column = ds.column }) })) (Err (LargeNumber ds.column))

-- What is read after a byte of some kind, in column n.
abbrev pub next : Sofar → ℕ → Kind → Result Sofar LineFault
next s n (Digit d) = longer s.tokens (unwrap_or s.digits (record { value = 0; column = n })) d
next s n Blank = Ok (closed s)
next s n (Mark t) = Ok (record { tokens = (closed s).tokens ++ t ∷ []; digits = None })
next s n Other = Err (OtherCharacter n)

-- The tokens of a line, of which s is read, and bs, from column n, is left; '#' ends it.
abbrev pub tokens_on : Sofar → ℕ → List ℕ → Result (List Token) LineFault
tokens_on s n [] = Ok (closed s).tokens
tokens_on s n (b ∷ bs) = cond (b == 35) (Ok (closed s).tokens) (next s n (kind b) then (λ t. tokens_on t (n + 1) bs))

-- The tokens of a line.
abbrev pub line_tokens : List ℕ → Result (List Token) LineFault
line_tokens bs = tokens_on (record { tokens = []; digits = None }) 1 bs
