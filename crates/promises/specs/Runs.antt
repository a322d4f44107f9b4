-- Any list of calls on one store that a box answers, and what holds of all of them.
use Rattle.std.specs.Prelude.{◌≡◌, ℕ, suc, ◌+◌, ◌*◌, ◌<◌, ◌≤◌, ◌⊎◌, List, [], ◌∷◌, length, take, ◌≢◌}
use Rattle.std.proofs.Math.Option.{Option, some}
use Rattle.machines.specs.Words.{Word, Keys}
use Rattle.machines.specs.Tables.{Box, Table, shows, Same, OfStates}
use Rattle.machines.specs.Answers.{Told, Said}
use Rattle.model.specs.Bits.{fine_words}
use Rattle.model.specs.States.{State, most_words, store_words, out_words}
use Rattle.model.specs.Moves.{EdgesTold}
use Rattle.promises.specs.declared.Began.TheVariants.{Ready, Few}
use Rattle.promises.specs.declared.Wanted.{Wanted}
use Rattle.promises.specs.declared.Wanted.TheVariants.{Ask, Larger, Broken, NoStore}
use Rattle.promises.specs.declared.Given.{Given}
use Rattle.promises.specs.declared.Given.TheVariants.{Taken}
use Rattle.promises.specs.Calls.{Call, again, stepped, answered, refuting, replay, answers, refutations, letters}
use Rattle.promises.specs.Promises.{Grows, Lawful, BeganPost, NextSays, ToldSays, RefutedSays}

-- Each word was told of once.
abbrev pub Once : List Told → Type 0
Once [] = Unit {0}
Once (x ∷ xs) = ((m : ℕ) → Said xs x.word m → ⊥) × Once xs

-- A table of so many rows shown after some calls, b being the box: it is borne out by all that was told, has no more rows than states are allowed, and no table for the box has fewer;
-- it is right if some table for the box has no more rows than it, or than there were refutations and one; if it is right, the box is one of so many states; and it grows.
pub record Shown (k n : ℕ) (b : Box) (cs : List Call) (rows : ℕ) (t : Table) : Type 0 where
  pub borne : (ws : List Word) × EdgesTold k rows t ws (Said (replay k n cs).told)
  pub allowed : rows ≤ n
  pub least : (m : ℕ) → OfStates k m b → rows ≤ m
  pub right : (m : ℕ) → OfStates k m b → m ≤ rows → Same k (shows k t) b
  pub settled : Same k (shows k t) b → OfStates k rows b
  pub last : (m : ℕ) → OfStates k m b → m ≤ suc (refutations cs) → Same k (shows k t) b
  pub grows : Grows (replay k n cs) rows t

-- After some calls: the answers and refutations taken are within the bound, they are all that was told, and each word was told of once.
pub record WordsTold (k n : ℕ) (cs : List Call) : Type 0 where
  pub few : answers cs + refutations cs ≤ most_words k n (letters cs)
  pub counted : length (replay k n cs).told ≡ answers cs + refutations cs
  pub once : Once (replay k n cs).told

module _ (state_of : List ℕ → Option State) where
  -- A store and the calls made on it since it was begun with k keys and at most n states, the newest first, each with any of its answers; all that is assumed is that what is taken is what the box b shows.
  pub data Run (k n : ℕ) (b : Box) : List ℕ → List Call → Type 0 where
    begins : (w w' : List ℕ) (room : ℕ) → BeganPost state_of k n room w w' Ready → Run k n b w' []
    refused : (w w' : List ℕ) (k' n' room : ℕ) (cs : List Call) → Run k n b w cs → BeganPost state_of k' n' room w w' Few → Run k n b w' (again k' n' room ∷ cs)
    steps : (w w' o o' : List ℕ) (r : Wanted) (cs : List Call) → Run k n b w cs → NextSays state_of (state_of w) w w' o o' r → Run k n b w' (stepped o o' r ∷ cs)
    tells :
        (w w' : List ℕ) (a : ℕ) (r : Given) (cs : List Call) → Run k n b w cs → ToldSays state_of (state_of w) a w w' r → (r ≡ Taken → a ≡ b (replay k n cs).asked)
        → Run k n b w' (answered a r ∷ cs)
    refutes :
        (w w' : List ℕ) (u : Word) (a : ℕ) (r : Given) (cs : List Call) → Run k n b w cs → RefutedSays state_of (state_of w) (length w) u a w w' r → (r ≡ Taken → a ≡ b u)
        → Run k n b w' (refuting u a r ∷ cs)

  -- The store holds what the calls say.
  abbrev pub HoldsAll : Type 0
  HoldsAll = (k n : ℕ) (b : Box) (w : List ℕ) (cs : List Call) → Run k n b w cs → state_of w ≡ some (replay k n cs)

  -- Fewer tables are refuted than any table for the box has rows.
  abbrev pub FewRefutations : Type 0
  FewRefutations = (k n m : ℕ) (b : Box) (w : List ℕ) (cs : List Call) → OfStates k m b → Run k n b w cs → refutations cs < m

  -- After any calls, each table that a step shows is so.
  abbrev pub TablesShown : Type 0
  TablesShown =
      (k n : ℕ) (b : Box) (w w' o o' : List ℕ) (cs : List Call) (rows : ℕ) → Run k n b w cs → NextSays state_of (state_of w) w w' o o' (Wanted.Table rows)
      → Shown k n b cs rows (take (rows * (k + 1)) o')

  -- With a box of at most n states a step never says that the box is larger, that there are two answers to one word, or that there is no store.
  abbrev pub NeverStuck : Type 0
  NeverStuck =
      (k n m : ℕ) (b : Box) (w w' o o' : List ℕ) (cs : List Call) (r : Wanted) → OfStates k m b → m ≤ n → Run k n b w cs → NextSays state_of (state_of w) w w' o o' r
      → (r ≡ Larger) ⊎ ((r ≡ Broken) ⊎ (r ≡ NoStore)) → ⊥

  -- Few words are told of, and each once.
  abbrev pub FewWords : Type 0
  FewWords = (k n : ℕ) (b : Box) (w : List ℕ) (cs : List Call) → Run k n b w cs → WordsTold k n cs

  -- Where the reading is lawful, the finer bound holds too.
  abbrev pub FinerWords : Type 0
  FinerWords = Lawful state_of → (k n : ℕ) (b : Box) (w : List ℕ) (cs : List Call) → Run k n b w cs → answers cs + refutations cs ≤ fine_words k n n (letters cs)

  -- With a box of at most n states and an out that is long enough, a step asks, and then one more answer is within the bound, or shows a table.
  abbrev pub GoesOn : Type 0
  GoesOn =
      (k n m : ℕ) (b : Box) (w w' o o' : List ℕ) (cs : List Call) (r : Wanted) → OfStates k m b → m ≤ n → Run k n b w cs → NextSays state_of (state_of w) w w' o o' r
      → out_words k n (letters cs) ≤ length o
      → ((l : ℕ) × (r ≡ Ask l) × (answers cs + refutations cs < most_words k n (letters cs))) ⊎ ((rows : ℕ) × (r ≡ Wanted.Table rows))

  -- An answer that is waited for is taken.
  abbrev pub TakesAnswers : Type 0
  TakesAnswers =
      (k n : ℕ) (b : Box) (w w' : List ℕ) (cs : List Call) (a : ℕ) (r : Given) → Run k n b w cs → (replay k n cs).waits ≡ 1 → ToldSays state_of (state_of w) a w w' r → r ≡ Taken

  -- What refutes the table that is looked at is taken, where the store has room.
  abbrev pub TakesRefutations : Type 0
  TakesRefutations =
      (k n : ℕ) (b : Box) (w w' : List ℕ) (cs : List Call) (u : Word) (a : ℕ) (r : Given) → Run k n b w cs → (replay k n cs).waits ≡ 2 → Keys k u
      → (shows k (replay k n cs).hypothesis u ≢ a) → store_words k n (letters cs + length u) ≤ length w → RefutedSays state_of (state_of w) (length w) u a w w' r
      → r ≡ Taken

  -- A round: a question with what the box shows, or a table with a refutation of it by what the box shows.
  pub data Round (k n : ℕ) (b : Box) (w : List ℕ) (cs : List Call) : List ℕ → List Call → Type 0 where
    question :
        (x y o o' : List ℕ) (l : ℕ) → NextSays state_of (state_of w) w x o o' (Ask l) → ToldSays state_of (state_of x) (b (take l o')) x y Taken
        → Round k n b w cs y (answered (b (take l o')) Taken ∷ (stepped o o' (Ask l) ∷ cs))
    correction :
        (x y o o' : List ℕ) (rows : ℕ) (u : Word) → NextSays state_of (state_of w) w x o o' (Wanted.Table rows) → RefutedSays state_of (state_of x) (length x) u (b u) x y Taken
        → Round k n b w cs y (refuting u (b u) Taken ∷ (stepped o o' (Wanted.Table rows) ∷ cs))

  -- However rounds go on from here, they come to an end.
  pub data Ends (k n : ℕ) (b : Box) : List ℕ → List Call → Type 0 where
    ends : (w : List ℕ) (cs : List Call) → ((y : List ℕ) (ds : List Call) → Round k n b w cs y ds → Ends k n b y ds) → Ends k n b w cs

  -- Nobody can go on answering and refuting for ever.
  abbrev pub AllEnds : Type 0
  AllEnds = (k n m : ℕ) (b : Box) (w : List ℕ) (cs : List Call) → OfStates k m b → Run k n b w cs → Ends k n b w cs
