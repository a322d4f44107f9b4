-- The moves of a learner keep what a step promises.
use Rattle.std.proofs.Common.{◌≡◌, ℕ, ◌+◌, ◌*◌, List, length, take, drop, sym, refl, ap, ◌∙◌, subst, inl, inr, arith}
use mathlib.Core.Option.{Option, some}
use Rattle.machines.specs.Words.{Word, Keys}
use Rattle.machines.specs.Tables.{Table}
use Rattle.machines.specs.Answers.{Said}
use Rattle.model.specs.States.{State, Asking, asks, showing}
use Rattle.model.specs.Learners.{Phase, filling, asks_cell, shows_table, bisecting, asks_middle, larger, broken, Learner, waits_in, view, Valid}
use Rattle.model.specs.Moves.{in_phase}
use Rattle.model.proofs.Refuting.{edges_apart}
use Rattle.model.proofs.Outcomes.{valid_stands, larger_says, broken_says}
use Rattle.promises.specs.declared.Wanted.{Wanted}
use Rattle.promises.specs.Calls.{table_in}
use Rattle.promises.specs.Promises.{Grows, TableBorne, LargerShown, NextSays}
use Rattle.promises.specs.Outcomes.{TableWritten, AskKept, TableKept, TableAgain, LargerKept, BrokenKept}

-- Only a table shown is looked at.
looks : (p : Phase) → waits_in p ≡ 2 → p ≡ shows_table
looks filling e = absurd (omega arith)
looks (asks_cell u v) e = absurd (omega arith)
looks shows_table e = refl
looks (bisecting l) e = absurd (omega arith)
looks (asks_middle l) e = absurd (omega arith)
looks (larger u) e = absurd (omega arith)
looks broken e = absurd (omega arith)

-- The table that a state shows is borne out.
abbrev BorneIn : State → Type 0
BorneIn st = TableBorne st st.rows st.hypothesis

shown_borne : (c : Learner) → Valid c → waits_in c.phase ≡ 2 → BorneIn (view c)
shown_borne c v e = (c.observed.access, edges_apart c v (looks c.phase e))

module _ (state_of : List ℕ → Option State) where
  pub ask_kept : AskKept state_of
  ask_kept c d w w' o o' next reads written =
      let u = (view d).asked in
      let x : Asking (asks (view c) u) = subst Asking next.is ((valid_stands d next.valid).asking next.waits) in (
        record {
          whole = ap length written.front;
          rest = written.rest;
          keys = subst (Keys c.keys) (sym written.front) x.word_keys;
          new = subst (λ (v : Word). (a : ℕ) → Said (view c).told v a → ⊥) (sym written.front) x.unknown;
          few = x.room;
          same = λ e. written.front ∙ next.same e;
          calm = next.calm;
        },
        reads ∙ ap some next.is ∙ ap (λ (v : Word). some (asks (view c) v)) (sym written.front),
      )

  -- A table that grows and is written out keeps the promise.
  table_says :
      (c d : Learner) (w w' o o' : List ℕ) → Valid d → waits_in d.phase ≡ 2 → view d ≡ showing (view c) (view d).rows (view d).hypothesis
      → Grows (view c) (view d).rows (table_in (view c) (view d).rows o') → state_of w' ≡ some (view d) → TableWritten d o o'
      → NextSays state_of (some (view c)) w w' o o' (Wanted.Table (view d).rows)
  table_says c d w w' o o' v e is grows reads written =
      let rows = (view d).rows in
      let keys : d.keys ≡ c.keys = ap (λ (st : State). st.keys) is in
      let most : d.most ≡ c.most = ap (λ (st : State). st.most) is in
      let front : (view d).hypothesis ≡ table_in (view c) rows o' = sym written.front ∙ ap (λ (k : ℕ). take (rows * (k + 1)) o') keys in (
        record {
          borne = subst (TableBorne (view c) rows) front (subst BorneIn is (shown_borne d v e));
          allowed = omega (arith, most, (valid_stands d v).rows_most);
          more = grows;
          rest = subst (λ (k : ℕ). drop (rows * (k + 1)) o' ≡ drop (rows * (k + 1)) o) keys written.rest;
        },
        reads ∙ ap some is ∙ ap (λ (t : Table). some (showing (view c) rows t)) front,
      )

  pub table_kept : TableKept state_of
  table_kept c d w w' o o' next = table_says c d w w' o o' next.valid next.waits next.is (inl next.more)

  pub table_again : TableAgain state_of
  table_again c w o o' v e reads written =
      let Again : Phase → Type 0 = λ p. let st = view (in_phase c p) in st ≡ showing st st.rows st.hypothesis in
      let is : view c ≡ showing (view c) (view c).rows (view c).hypothesis = subst Again (sym (looks c.phase e)) refl in
      table_says c c w w o o' v e is (inr (record { waits = e; same = written.front; as_many = refl })) reads written

  pub larger_kept : LargerKept state_of
  larger_kept c d u w w' o v p is reads = (subst LargerShown is (larger_says d u v p), reads ∙ ap some is, refl)

  pub broken_kept : BrokenKept state_of
  broken_kept c w o v p reads = (broken_says c v p, reads, refl)
