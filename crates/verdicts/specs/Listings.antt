-- Things that are found by looking at each number below a limit.
use Rattle.std.specs.Prelude.{◌≡◌, ℕ, suc, ◌+◌, ◌/◌, ◌%◌, cond, List, [], ◌∷◌, ◌++◌, map, length, take, Some, None, vec_items, Option, nat_lt, slice_get}
use Rattle.answers.specs.declared.table.Row.{Row}
use Rattle.answers.specs.declared.table.Key.{Key}
use Rattle.verdicts.specs.declared.listing.Listing.{Listing}

-- The numbers below n of which Good does not hold, in order.
pub data Failing (Good : ℕ → Type 0) : ℕ → List ℕ → Type 0 where
  none : Failing Good 0 []
  holds : {n : ℕ} {l : List ℕ} → Failing Good n l → Good n → Failing Good (suc n) l
  fails : {n : ℕ} {l : List ℕ} → Failing Good n l → (Good n → ⊥) → Failing Good (suc n) (l ++ (n ∷ []))

-- A list with one more thing, unless it has as many as wanted.
abbrev pub noted : {T : Type 0} → ℕ → List T → T → List T
noted most l x = cond (nat_lt (length l) most) (l ++ (x ∷ [])) l

-- What a list and a count become by what was found at one number.
abbrev pub Noted : {T : Type 0} → ℕ → Option T → List T → ℕ → List T → ℕ → Type 0
Noted most None l c more d = (more ≡ l) × (d ≡ c)
Noted most (Some x) l c more d = (more ≡ noted most l x) × (d ≡ c + 1)

-- What they become by what is found at each number below n, where R relates a number to what is found there.
pub data Looked {T : Type 0} (most : ℕ) (R : ℕ → Option T → Type 0) (before : List T) (known : ℕ) : ℕ → List T → ℕ → Type 0 where
  begun : Looked most R before known 0 before known
  further : {n c d : ℕ} {l more : List T} {o : Option T} → Looked most R before known n l c → R n o → Noted most o l c more d → Looked most R before known (suc n) more d

-- The first thing of a list, if there is one.
abbrev pub Head : {T : Type 0} → List T → Option T → Type 0
Head l o = o ≡ slice_get l 0

-- An answer stands for itself.
abbrev pub itself : ℕ → ℕ
itself i = i

-- The row with a number.
abbrev pub row_at : ℕ → Row
row_at i = record { 0 = i }

-- The key with a number.
abbrev pub key_at : ℕ → Key
key_at x = record { 0 = x }

-- The pair of rows with the number i * rows + j.
abbrev pub pair_at : ℕ → ℕ → Row × Row
pair_at rows p = (row_at (p / rows), row_at (p % rows))

-- The row, the key and the other row with the number (i * k + x) * rows + j.
abbrev pub edge_at : ℕ → ℕ → ℕ → Row × Key × Row
edge_at k rows p = (row_at ((p / rows) / k), key_at ((p / rows) % k), row_at (p % rows))

-- What a check finds at a number: nothing where Good holds of it, and what stands there where it does not.
abbrev pub Checks : {T : Type 0} → (ℕ → T) → (ℕ → Type 0) → ℕ → Option T → Type 0
Checks at Good i None = Good i
Checks at Good i (Some x) = (Good i → ⊥) × (x ≡ at i)

-- A listing has what stands at the first of the numbers below n of which Good does not hold, at most so many, and counts them all.
pub record Lists {T : Type 0} (at : ℕ → T) (Good : ℕ → Type 0) (n most : ℕ) (listing : Listing T) : Type 0 where
  pub all : List ℕ
  pub failing : Failing Good n all
  pub first : vec_items listing.first ≡ map at (take most all)
  pub count : listing.count ≡ length all
