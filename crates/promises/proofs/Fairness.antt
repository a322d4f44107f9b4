-- What holds of the state after any calls, where the box is right in all that was taken.
use Rattle.std.proofs.Common.{◌≡◌, ℕ, ◌+◌, ◌<◌, ◌≤◌, ◌⊎◌, List, [], ◌∷◌, length, take, sym, refl, ◌∙◌, subst, inl, inr, zero-add, arith}
use mathlib.Core.Option.{Option, some}
use Rattle.machines.specs.Words.{Word, Keys}
use Rattle.machines.specs.Tables.{Box}
use Rattle.machines.specs.Answers.{Told, In, Said, RightOf, OfKeys}
use Rattle.machines.specs.Answers.In.{here, there}
use Rattle.machines.specs.Borne.{IsBorneOut}
use Rattle.model.specs.States.{State, Asking, fresh, asks, showing, hears, refuted_by, most_words}
use Rattle.promises.specs.declared.Wanted.{Wanted}
use Rattle.promises.specs.declared.Wanted.TheVariants.{Ask, Larger, Broken, NoStore, Short}
use Rattle.promises.specs.declared.Given.{Given}
use Rattle.promises.specs.declared.Given.TheVariants.{Taken, NotAsked, NoRefute, Full, Unstored}
use Rattle.promises.specs.Calls.{Call, table_in, step_to, answer_to, refute_to, one, refutations, replay}
use Rattle.promises.specs.Promises.{AskSays, TableSays, Refutes, NextSays, ToldSays, RefutedSays}
use Rattle.promises.specs.Runs.{Once, Run, begins, refused, steps, tells, refutes}
use Rattle.promises.proofs.Replays.{holds_all}

-- What holds where b is right in all that was told and r refutations were taken.
pub record Fair (b : Box) (st : State) (r : ℕ) : Type 0 where
  pub right : RightOf b (Said st.told)
  pub words : OfKeys st.keys (Said st.told)
  pub once : Once st.told
  pub few : length st.told ≤ most_words st.keys st.most st.refuted
  pub asking : st.waits ≡ 1 → Asking st
  pub shown : st.waits ≡ 2 → (ws : List Word) × IsBorneOut st.keys st.rows st.hypothesis ws (Said st.told)
  pub refutes : r ≤ st.rows
  pub unrefuted : st.waits ≡ 2 → r < st.rows

in_head : {x y : Told} {told : List Told} → In x (y ∷ told) → (y ≡ x) ⊎ In x told
in_head here = inl refl
in_head (there h) = inr h

-- What holds of an answer and of all answers told holds with that answer told.
said_more : (P : Word → ℕ → Type 0) {u : Word} {a : ℕ} {told : List Told} → P u a → ((w : Word) (m : ℕ) → Said told w m → P w m) → (w : Word) (m : ℕ) → Said (record { word = u; shown = a } ∷ told) w m → P w m
said_more P p all w m h = elim (in_head h) [ inl e ↦ subst (λ (x : Told). P x.word x.shown) e p | inr i ↦ all w m i ]

fair_fresh : (k n : ℕ) (b : Box) → Fair b (fresh k n) 0
fair_fresh k n b =
    record {
      right = λ w m h. elim h [ ];
      words = λ w m h. elim h [ ];
      once = tt;
      few = omega arith;
      asking = λ e. absurd (omega arith);
      shown = λ e. absurd (omega arith);
      refutes = omega arith;
      unrefuted = λ e. absurd (omega arith);
    }

module _ {b : Box} {st : State} {r : ℕ} (f : Fair b st r) where
  fair_asks : {m : ℕ} {o o' : List ℕ} → AskSays st m o o' → Fair b (asks st (take m o')) r
  fair_asks s =
      record {
        right = f.right;
        words = f.words;
        once = f.once;
        few = f.few;
        asking = λ e. record { word_keys = s.keys; unknown = s.new; room = s.few };
        shown = λ e. absurd (omega arith);
        refutes = f.refutes;
        unrefuted = λ e. absurd (omega arith);
      }

  -- A table that grows has more rows than were refuted.
  pub grown : {rows : ℕ} {o o' : List ℕ} → TableSays st rows o o' → r < rows
  grown s = elim s.more [ inl l ↦ omega (arith, f.refutes, l) | inr l ↦ omega (arith, f.unrefuted l.waits, l.as_many) ]

  fair_showing : {rows : ℕ} {o o' : List ℕ} → TableSays st rows o o' → Fair b (showing st rows (table_in st rows o')) r
  fair_showing s =
      record {
        right = f.right;
        words = f.words;
        once = f.once;
        few = f.few;
        asking = λ e. absurd (omega arith);
        shown = λ e. (s.borne.0, s.borne.1.borne);
        refutes = omega (arith, grown s);
        unrefuted = λ e. grown s;
      }

  fair_hears : {a : ℕ} → st.waits ≡ 1 → a ≡ b st.asked → Fair b (hears st a) r
  fair_hears e is =
      let x = f.asking e in
      record {
        right = said_more (λ w m. b w ≡ m) (sym is) f.right;
        words = said_more (λ w m. Keys st.keys w) x.word_keys f.words;
        once = (x.unknown, f.once);
        few = x.room;
        asking = λ z. absurd (omega arith);
        shown = λ z. absurd (omega arith);
        refutes = f.refutes;
        unrefuted = λ z. absurd (omega arith);
      }

  -- Nothing was told of a word that refutes.
  refuting_new : {u : Word} {a : ℕ} → Refutes st u a → a ≡ b u → (m : ℕ) → Said st.told u m → ⊥
  refuting_new {u} {a} s is m said = s.wrong ((f.shown s.waits).1.agrees u m said ∙ sym (f.right u m said) ∙ sym is)

  -- So it is not empty.
  refuting_long : (u : Word) {a : ℕ} → Refutes st u a → a ≡ b u → 0 < length u
  refuting_long [] s is =
      let x = f.shown s.waits in
      let said = x.1.asked 0 x.1.sound.some_rows in
      absurd (refuting_new s is said.0 (subst (λ (w : Word). Said st.told w said.0) x.1.first said.1))
  refuting_long (x ∷ u) s is = omega arith

  fair_refuted : {u : Word} {a : ℕ} → Refutes st u a → a ≡ b u → Fair b (refuted_by st u a) (1 + r)
  fair_refuted {u} {a} s is =
      record {
        right = said_more (λ w m. b w ≡ m) (sym is) f.right;
        words = said_more (λ w m. Keys st.keys w) s.keys f.words;
        once = (refuting_new s is, f.once);
        few = omega (arith, f.few, refuting_long u s is);
        asking = λ z. absurd (omega arith);
        shown = λ z. absurd (omega arith);
        refutes = omega (arith, f.unrefuted s.waits);
        unrefuted = λ z. absurd (omega arith);
      }

  module _ (state_of : List ℕ → Option State) where
    fair_step : (w w' o o' : List ℕ) (q : Wanted) → NextSays state_of (some st) w w' o o' q → Fair b (step_to q o' st) r
    fair_step w w' o o' (Ask m) s = fair_asks s.0
    fair_step w w' o o' (Wanted.Table rows) s = fair_showing s.0
    fair_step w w' o o' Larger s = f
    fair_step w w' o o' Broken s = f
    fair_step w w' o o' NoStore s = f
    fair_step w w' o o' Short s = f

    fair_answer : (w w' : List ℕ) (a : ℕ) (q : Given) → ToldSays state_of (some st) a w w' q → (q ≡ Taken → a ≡ b st.asked) → Fair b (answer_to q a st) r
    fair_answer w w' a Taken s is = fair_hears s.0 (is refl)
    fair_answer w w' a NotAsked s is = f
    fair_answer w w' a NoRefute s is = f
    fair_answer w w' a Full s is = f
    fair_answer w w' a Unstored s is = f

    fair_refute : (w w' : List ℕ) (l : ℕ) (u : Word) (a : ℕ) (q : Given) → RefutedSays state_of (some st) l u a w w' q → (q ≡ Taken → a ≡ b u) → Fair b (refute_to q u a st) (one q + r)
    fair_refute w w' l u a Taken s is = fair_refuted s.0 (is refl)
    fair_refute w w' l u a NotAsked s is = rw zero-add f
    fair_refute w w' l u a NoRefute s is = rw zero-add f
    fair_refute w w' l u a Full s is = rw zero-add f
    fair_refute w w' l u a Unstored s is = rw zero-add f

module _ (state_of : List ℕ → Option State) where
  -- It holds after every list of calls.
  pub fair : (k n : ℕ) (b : Box) (w : List ℕ) (cs : List Call) → Run state_of k n b w cs → Fair b (replay k n cs) (refutations cs)
  fair k n b w cs (begins v y room p) = fair_fresh k n b
  fair k n b w cs (refused v y k' n' room ds run p) = fair k n b v ds run
  fair k n b w cs (steps v y o o' r ds run s) = let e = holds_all state_of k n b v ds run in fair_step (fair k n b v ds run) state_of v y o o' r (rw e at s)
  fair k n b w cs (tells v y a r ds run s is) = let e = holds_all state_of k n b v ds run in fair_answer (fair k n b v ds run) state_of v y a r (rw e at s) is
  fair k n b w cs (refutes v y u a r ds run s is) = let e = holds_all state_of k n b v ds run in fair_refute (fair k n b v ds run) state_of v y (length v) u a r (rw e at s) is
