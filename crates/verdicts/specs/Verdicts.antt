-- What a report lists, and what a verdict means.
use Rattle.std.specs.Prelude.{◌≡◌, ℕ, ◌*◌, ◌<◌, ◌≤◌, List, [], ◌∷◌, ◌++◌, length, Some, None, Option, ◌≢◌, slice_index_or}
use Rattle.machines.specs.Words.{Word}
use Rattle.machines.specs.Tables.{Box, next, shows, Same, OfStates}
use Rattle.machines.specs.Answers.{Told, Said, Single, RightOf, OfKeys, ToldApart}
use Rattle.machines.specs.Borne.{IsBorneOut}
use Rattle.answers.specs.declared.table.Table.{Table}
use Rattle.answers.specs.Values.{keys_of, rows_of, cells_of}
use Rattle.verdicts.specs.declared.report.AuditFault.{AuditFault}
use Rattle.verdicts.specs.declared.report.AuditFault.TheVariants.{WordCount, Memory}
use Rattle.verdicts.specs.declared.report.Report.{Report}
use Rattle.verdicts.specs.declared.verdict.Flaw.{Flaw}
use Rattle.verdicts.specs.declared.verdict.Flaw.TheVariants.{Conflict, Wrong, Unfit, Alike, Open}
use Rattle.verdicts.specs.Faults.{Consistent, Agreed, RowFit, PairApart, EdgeApart}
use Rattle.verdicts.specs.Listings.{Lists, itself, row_at, pair_at, edge_at}

-- A report lists all that is missing for a table, with a word for each row, to be borne out by answers.
pub record Reports (t : Table) (ws : List Word) (answers : List Told) (most : ℕ) (r : Report) : Type 0 where
  pub as_many : length ws ≡ rows_of t
  pub conflicts : Lists itself (Consistent answers) (length answers) most r.conflicts
  pub wrong : Lists itself (Agreed (keys_of t) (cells_of t) answers) (length answers) most r.wrong
  pub words : Lists row_at (RowFit (keys_of t) (cells_of t) ws answers) (rows_of t) most r.words
  pub pairs : Lists (pair_at (rows_of t)) (PairApart (rows_of t) ws answers) (rows_of t * rows_of t) most r.pairs
  pub edges : Lists (edge_at (keys_of t) (rows_of t)) (EdgeApart (keys_of t) (rows_of t) (cells_of t) ws answers) ((rows_of t * keys_of t) * rows_of t) most r.edges

-- Why there is no report: the words are more or fewer than the rows. Want of memory may always come.
abbrev pub NoReport : Table → List Word → AuditFault → Type 0
NoReport t ws WordCount = length ws ≡ rows_of t → ⊥
NoReport t ws Memory = Unit {0}

-- A table is borne out by answers, which are of its keys. So it has no more rows than any table for a box that gave these answers, and if it has as many, it is right.
pub record Borne (t : Table) (ws : List Word) (answers : List Told) : Type 0 where
  pub borne : IsBorneOut (keys_of t) (rows_of t) (cells_of t) ws (Said answers)
  pub keys : OfKeys (keys_of t) (Said answers)
  pub least : (n : ℕ) (b : Box) → OfStates (keys_of t) n b → RightOf b (Said answers) → rows_of t ≤ n
  pub right : (n : ℕ) (b : Box) → OfStates (keys_of t) n b → RightOf b (Said answers) → n ≤ rows_of t → Same (keys_of t) (shows (keys_of t) (cells_of t)) b

-- What a verdict says: where it names no flaw, the table is borne out; else the first answer that contradicts an earlier one to its word;
-- or, no two answers contradicting each other, the first answer that the table gets wrong or that is of other keys; the first row whose word is not fit for it;
-- two rows whose words are not told apart; a row and a key whose word is not told apart from another row than the key leads to.
abbrev pub Says : Table → List Word → List Told → Option Flaw → Type 0
Says t ws answers None = Borne t ws answers
Says t ws answers (Some (Conflict i)) = (i < length answers) × (Consistent answers i → ⊥) × ((j : ℕ) → j < i → Consistent answers j)
Says t ws answers (Some (Wrong i)) = Single (Said answers) × (i < length answers) × (Agreed (keys_of t) (cells_of t) answers i → ⊥) × ((j : ℕ) → j < i → Agreed (keys_of t) (cells_of t) answers j)
Says t ws answers (Some (Unfit r)) = Single (Said answers) × (r.0 < rows_of t) × (RowFit (keys_of t) (cells_of t) ws answers r.0 → ⊥) × ((j : ℕ) → j < r.0 → RowFit (keys_of t) (cells_of t) ws answers j)
Says t ws answers (Some (Alike r s)) = Single (Said answers) × (r.0 < s.0) × (s.0 < rows_of t) × (ToldApart (Said answers) (slice_index_or ws r.0 []) (slice_index_or ws s.0 []) → ⊥)
Says t ws answers (Some (Open r x s)) = Single (Said answers) × (r.0 < rows_of t) × (x.0 < keys_of t) × (s.0 < rows_of t) × (s.0 ≢ next (keys_of t) (cells_of t) r.0 x.0)
    × (ToldApart (Said answers) (slice_index_or ws r.0 [] ++ (x.0 ∷ [])) (slice_index_or ws s.0 []) → ⊥)

-- A verdict is right: what it says holds, and where it names a flaw, the table is not borne out with these words by answers of its keys.
pub record Judged (t : Table) (ws : List Word) (answers : List Told) (v : Option Flaw) : Type 0 where
  pub says : Says t ws answers v
  pub exact : (v ≢ None) → IsBorneOut (keys_of t) (rows_of t) (cells_of t) ws (Said answers) → OfKeys (keys_of t) (Said answers) → ⊥
