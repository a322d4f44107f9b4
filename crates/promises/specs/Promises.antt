-- What the four calls promise, for any reading of the lent store as a state.
use Rattle.std.specs.Prelude.{◌≡◌, ℕ, ◌+◌, ◌*◌, ◌<◌, ◌≤◌, ◌⊎◌, ◌↔◌, List, length, take, drop, ◌≢◌}
use Rattle.std.proofs.Math.Option.{Option, some, none}
use Rattle.machines.specs.Words.{Word, Keys}
use Rattle.machines.specs.Tables.{Table, shows}
use Rattle.machines.specs.Answers.{Said, TwoAnswers}
use Rattle.model.specs.States.{State, Stands, fresh, asks, showing, hears, refuted_by, most_words, store_words, out_words}
use Rattle.model.specs.Moves.{ApartWords, EdgesTold}
use Rattle.promises.specs.declared.Began.{Began}
use Rattle.promises.specs.declared.Began.TheVariants.{Ready, Few}
use Rattle.promises.specs.declared.Wanted.{Wanted}
use Rattle.promises.specs.declared.Wanted.TheVariants.{Ask, Larger, Broken, NoStore, Short}
use Rattle.promises.specs.declared.Given.{Given}
use Rattle.promises.specs.declared.Given.TheVariants.{Taken, NotAsked, NoRefute, Full, Unstored}
use Rattle.promises.specs.Calls.{table_in}

-- There are no keys or too many, no states or too many, or the store is too short.
abbrev pub Unfit : ℕ → ℕ → ℕ → List ℕ → Type 0
Unfit k n room w = (k < 1) ⊎ ((64 < k) ⊎ ((n < 1) ⊎ ((1024 < n) ⊎ (length w < store_words k n room))))

-- A question: its word of m keys stands first in out, the rest of out is as it was, nothing was told of it, and one more answer is within the bound;
-- while an answer is waited for it is the word asked about before, and while a table is looked at there is no question.
pub record AskSays (st : State) (m : ℕ) (o o' : List ℕ) : Type 0 where
  pub whole : length (take m o') ≡ m
  pub rest : drop m o' ≡ drop m o
  pub keys : Keys st.keys (take m o')
  pub new : (a : ℕ) → Said st.told (take m o') a → ⊥
  pub few : length st.told < most_words st.keys st.most st.refuted
  pub same : st.waits ≡ 1 → take m o' ≡ st.asked
  pub calm : st.waits ≡ 2 → ⊥

-- A table is the one that is looked at already.
pub record LookedAt (st : State) (rows : ℕ) (t : Table) : Type 0 where
  pub waits : st.waits ≡ 2
  pub same : t ≡ st.hypothesis
  pub as_many : rows ≡ st.rows

-- A table has more rows than the last one shown, or is the last one, not refuted yet.
abbrev pub Grows : State → ℕ → Table → Type 0
Grows st rows t = (st.rows < rows) ⊎ LookedAt st rows t

-- With some words for its rows a table is borne out by what was told, and these words with a key behind them are told apart where they lead to different rows.
abbrev pub TableBorne : State → ℕ → Table → Type 0
TableBorne st rows t = (ws : List Word) × EdgesTold st.keys rows t ws (Said st.told)

-- A table: it stands first in out, the rest of out is as it was, it is borne out, has no more rows than states are allowed, and grows.
pub record TableSays (st : State) (rows : ℕ) (o o' : List ℕ) : Type 0 where
  pub borne : TableBorne st rows (table_in st rows o')
  pub allowed : rows ≤ st.most
  pub more : Grows st rows (table_in st rows o')
  pub rest : drop (rows * (st.keys + 1)) o' ≡ drop (rows * (st.keys + 1)) o

-- One more word than there may be states, any two of them told apart.
abbrev pub LargerShown : State → Type 0
LargerShown st = (ws : List Word) × ApartWords st.keys (Said st.told) ws × (length ws ≡ st.most + 1)

-- A table is looked at, and after a word of keys it does not show this number.
pub record Refutes (st : State) (u : Word) (a : ℕ) : Type 0 where
  pub waits : st.waits ≡ 2
  pub keys : Keys st.keys u
  pub wrong : shows st.keys st.hypothesis u ≡ a → ⊥

module _ (state_of : List ℕ → Option State) where
  -- Of whatever is read as a state holds what holds of every state.
  abbrev pub Lawful : Type 0
  Lawful = (w : List ℕ) (st : State) → state_of w ≡ some st → Stands st

  -- A beginning is refused exactly where something is unfit, and then the store is as it was; else the store holds that nothing was told.
  pub record BeganPost (k n room : ℕ) (w w' : List ℕ) (r : Began) : Type 0 where
    pub ready : r ≡ Ready → state_of w' ≡ some (fresh k n)
    pub few : Unfit k n room w ↔ (r ≡ Few)
    pub kept : r ≡ Few → w' ≡ w

  -- What a step says, by what the store held and what is wanted: of memory that is no store only that 'no store' leaves all as it was.
  abbrev pub NextSays : Option State → List ℕ → List ℕ → List ℕ → List ℕ → Wanted → Type 0
  NextSays none w w' o o' (Ask m) = Unit {0}
  NextSays none w w' o o' (Wanted.Table rows) = Unit {0}
  NextSays none w w' o o' Larger = Unit {0}
  NextSays none w w' o o' Broken = Unit {0}
  NextSays none w w' o o' NoStore = (w' ≡ w) × (o' ≡ o)
  NextSays none w w' o o' Short = Unit {0}
  NextSays (some st) w w' o o' (Ask m) = AskSays st m o o' × (state_of w' ≡ some (asks st (take m o')))
  NextSays (some st) w w' o o' (Wanted.Table rows) = TableSays st rows o o' × (state_of w' ≡ some (showing st rows (table_in st rows o')))
  NextSays (some st) w w' o o' Larger = LargerShown st × (state_of w' ≡ some st) × (o' ≡ o)
  NextSays (some st) w w' o o' Broken = TwoAnswers (Said st.told) × (state_of w' ≡ some st) × (o' ≡ o)
  NextSays (some st) w w' o o' NoStore = ⊥
  NextSays (some st) w w' o o' Short = (length o < out_words st.keys st.most st.refuted) × (w' ≡ w) × (o' ≡ o)

  -- What is said of an answer: it is taken exactly where one is waited for; of memory that is no store only that 'unstored' leaves it as it was.
  abbrev pub ToldSays : Option State → ℕ → List ℕ → List ℕ → Given → Type 0
  ToldSays none a w w' Taken = Unit {0}
  ToldSays none a w w' NotAsked = Unit {0}
  ToldSays none a w w' NoRefute = Unit {0}
  ToldSays none a w w' Full = Unit {0}
  ToldSays none a w w' Unstored = w' ≡ w
  ToldSays (some st) a w w' Taken = (st.waits ≡ 1) × (state_of w' ≡ some (hears st a))
  ToldSays (some st) a w w' NotAsked = (st.waits ≢ 1) × (w' ≡ w)
  ToldSays (some st) a w w' NoRefute = ⊥
  ToldSays (some st) a w w' Full = ⊥
  ToldSays (some st) a w w' Unstored = ⊥

  -- What is said of a refutation, the store having b words: it is taken exactly where it refutes the table that is looked at and the store has room; of memory that is no store as of an answer.
  abbrev pub RefutedSays : Option State → ℕ → Word → ℕ → List ℕ → List ℕ → Given → Type 0
  RefutedSays none b u a w w' Taken = Unit {0}
  RefutedSays none b u a w w' NotAsked = Unit {0}
  RefutedSays none b u a w w' NoRefute = Unit {0}
  RefutedSays none b u a w w' Full = Unit {0}
  RefutedSays none b u a w w' Unstored = w' ≡ w
  RefutedSays (some st) b u a w w' Taken = Refutes st u a × (store_words st.keys st.most (st.refuted + length u) ≤ b) × (state_of w' ≡ some (refuted_by st u a))
  RefutedSays (some st) b u a w w' NotAsked = (st.waits ≢ 2) × (w' ≡ w)
  RefutedSays (some st) b u a w w' NoRefute = (st.waits ≡ 2) × ((Keys st.keys u → ⊥) ⊎ (shows st.keys st.hypothesis u ≡ a)) × (w' ≡ w)
  RefutedSays (some st) b u a w w' Full = Refutes st u a × (b < store_words st.keys st.most (st.refuted + length u)) × (w' ≡ w)
  RefutedSays (some st) b u a w w' Unstored = ⊥
