-- What must hold for a table to be borne out, thing by thing.
use Rattle.std.specs.Prelude.{◌≡◌, ℕ, ◌/◌, ◌%◌, ◌<◌, List, [], ◌∷◌, ◌++◌, length, Some, None, Option, ◌≢◌, slice_index_or}
use Rattle.machines.specs.Words.{Word, Keys}
use Rattle.machines.specs.Tables.{Table, next, walk, shows}
use Rattle.machines.specs.Answers.{Told, ToldApart}
use Rattle.verdicts.specs.declared.words.WordFault.{WordFault}
use Rattle.verdicts.specs.declared.words.WordFault.TheVariants.{NotEmpty, OtherKeys, LeadsTo, NotTold}
use Rattle.verdicts.specs.Orders.{word_at, shown_at, FirstAt, FirstSaid}

-- The first answer to a word; none where there is none.
abbrev pub FirstAnswer : List Told → Word → Option ℕ → Type 0
FirstAnswer answers w None = (i : ℕ) → i < length answers → word_at answers i ≢ w
FirstAnswer answers w (Some i) = (i < length answers) × (word_at answers i ≡ w) × FirstAt answers i

-- Answer i says what the first answer to its word says.
abbrev pub Consistent : List Told → ℕ → Type 0
Consistent answers i = (m : ℕ) → FirstSaid answers (word_at answers i) m → m ≡ shown_at answers i

-- Answer i is of a word of keys, and the table shows what it says.
abbrev pub Agreed : ℕ → Table → List Told → ℕ → Type 0
Agreed k t answers i = Keys k (word_at answers i) × (shows k t (word_at answers i) ≡ shown_at answers i)

-- A word is fit for row i: for row 0 it is empty, it is of keys, it leads to the row, and it was told of.
pub record Fit (k : ℕ) (t : Table) (answers : List Told) (i : ℕ) (w : Word) : Type 0 where
  pub empty : i ≡ 0 → w ≡ []
  pub keys : Keys k w
  pub leads : walk k t 0 w ≡ i
  pub told : (m : ℕ) × FirstSaid answers w m

-- The word of row i is fit for it.
abbrev pub RowFit : ℕ → Table → List Word → List Told → ℕ → Type 0
RowFit k t ws answers i = Fit k t answers i (slice_index_or ws i [])

-- Why a word is not fit for row i; none where it is.
abbrev pub IsWordFault : ℕ → Table → List Told → ℕ → Word → Option WordFault → Type 0
IsWordFault k t answers i w None = Fit k t answers i w
IsWordFault k t answers i w (Some NotEmpty) = (i ≡ 0) × (w ≢ [])
IsWordFault k t answers i w (Some OtherKeys) = Keys k w → ⊥
IsWordFault k t answers i w (Some (LeadsTo r)) = Keys k w × (walk k t 0 w ≡ r.0) × (r.0 ≢ i)
IsWordFault k t answers i w (Some NotTold) = (m : ℕ) → FirstSaid answers w m → ⊥

-- The words of rows i < j are told apart.
abbrev pub RowsApart : List Word → List Told → ℕ → ℕ → Type 0
RowsApart ws answers i j = i < j → ToldApart (FirstSaid answers) (slice_index_or ws i []) (slice_index_or ws j [])

-- The same for the pair of rows that has the number i * rows + j.
abbrev pub PairApart : ℕ → List Word → List Told → ℕ → Type 0
PairApart rows ws answers p = RowsApart ws answers (p / rows) (p % rows)

-- The word of row i with key x behind it is told apart from the word of row j, unless the key leads there.
abbrev pub ApartOrThere : ℕ → Table → List Word → List Told → ℕ → ℕ → ℕ → Type 0
ApartOrThere k t ws answers i x j = (j ≢ next k t i x) → ToldApart (FirstSaid answers) (slice_index_or ws i [] ++ (x ∷ [])) (slice_index_or ws j [])

-- The same for row i with key x and row j, which have the number (i * k + x) * rows + j.
abbrev pub EdgeApart : ℕ → ℕ → Table → List Word → List Told → ℕ → Type 0
EdgeApart k rows t ws answers p = ApartOrThere k t ws answers ((p / rows) / k) ((p / rows) % k) (p % rows)
