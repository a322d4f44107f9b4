-- What a valid learner is for others: all that is promised of states, and what 'larger' and 'broken' show.
use Rattle.std.proofs.Common.{◌≡◌, ℕ, ◌+◌, ◌*◌, ◌<◌, ◌≤◌, List, [], ◌∷◌, ◌++◌, length, get_or, drop, sym, ap, ◌∙◌, subst, inl, inr, mul-le-mul_right, arith, length-append, length-drop}
use Rattle.std.proofs.lemmas.List.{length_push, get_or_push, get_or_append_left}
use Rattle.machines.specs.Words.{Word, Keys}
use Rattle.machines.specs.Answers.{Said, ToldApart}
use Rattle.machines.specs.Borne.{IsBorneOut}
use Rattle.machines.proofs.Walks.{keys-append}
use Rattle.model.specs.States.{most_words}
use Rattle.model.specs.Bits.{bits, fine_words}
use Rattle.model.specs.Observations.{
  Observations,
  rows,
  count,
  access_word,
  suffix_word,
  edge_word,
  answer_at,
  word_at,
  shown_at,
  told,
  New,
  WellFormed,
  row_along,
}
use Rattle.model.specs.Learners.{
  middle,
  Phase,
  filling,
  asks_cell,
  shows_table,
  bisecting,
  asks_middle,
  larger,
  broken,
  waits_in,
  hypothesis_in,
  asked_in,
  view,
  Counted,
  SplitWords,
  InPhase,
}
use Rattle.model.specs.Moves.{ValidStands, LargerSays, BrokenSays}
use Rattle.model.specs.Steps.{RowsShort, AskedShort, OutFits, AnswersFew, AnswersFewer}
use Rattle.model.proofs.Lists.{nonzero_few, nonzero_gap, push_place}
use Rattle.model.proofs.Digits.{fits}
use Rattle.model.proofs.Appends.{cell_place}
use Rattle.model.proofs.Telling.{length-told, said_at, said_back, apart_by, apart_sym, apart_as, access_apart, access_keys, edge_keys, told_keys, access_short, edge_short}
use Rattle.model.proofs.Hypotheses.{length-table, borne}
use Rattle.model.proofs.Filling.{phase_at}
use Rattle.model.proofs.Bisecting.{keys_take, along_inside, some_left}

module _ {k n : ℕ} {b : Observations} {bisected refutes last : ℕ} (w : WellFormed k n b) (t : Counted b bisected refutes last) where
  all_halved : rows b * bits b.letters ≤ n * bits b.letters
  all_halved = mul-le-mul_right {m = rows b} {n = n} (bits b.letters) w.limits.rows_most

  count_few : count b ≤ fine_words k n refutes b.letters
  count_few = omega (arith, t.all, nonzero_few b.cells, w.limits.cells_long, t.halved, all_halved)

  refutes_few : refutes ≤ n
  refutes_few = omega (arith, t.tables, t.shown, w.limits.rows_most)

  fewer_in : (s : List ℕ) (p : Phase) → InPhase k n b s bisected refutes last p → 0 < waits_in p → count b < fine_words k n n b.letters
  fewer_in s filling x h = absurd (omega arith)
  fewer_in s (asks_cell u e) x h =
      omega (arith, t.all, nonzero_gap b.cells (u * n + e) (cell_place w u e x.1.edge_in x.1.suffix_in) x.1.unknown, w.limits.cells_long, t.halved, all_halved, refutes_few)
  fewer_in s shows_table x h = omega (arith, t.all, nonzero_few b.cells, w.limits.cells_long, t.halved, all_halved, x.unrefuted, t.shown, w.limits.rows_most)
  fewer_in s (bisecting l) x h = absurd (omega arith)
  fewer_in s (asks_middle l) x h = omega (arith, t.all, nonzero_few b.cells, w.limits.cells_long, some_left x.0 x.1.wide, all_halved, refutes_few)
  fewer_in s (larger u) x h = absurd (omega arith)
  fewer_in s broken x h = absurd (omega arith)

  told_fewer : (s : List ℕ) (p : Phase) → InPhase k n b s bisected refutes last p → 0 < waits_in p → length (told b) < most_words k n b.letters
  told_fewer s p x h = omega (arith, length-told b, fewer_in s p x h, fits k n b.letters w.limits.keys_least)

  unsaid : (v : Word) → New b v → (m : ℕ) → Said (told b) v m → ⊥
  unsaid v new m said = let q = said_back b v m said in new q.0 q.1 q.2

  asked_keys : (s : List ℕ) (p : Phase) → InPhase k n b s bisected refutes last p → Keys k (asked_in k b s p)
  asked_keys s filling x = tt
  asked_keys s (asks_cell u e) x = (keys-append k (edge_word k b u) (suffix_word b e)).1 (edge_keys w u x.1.edge_in, (w.spelt.suffix e x.1.suffix_in).of_keys)
  asked_keys s shows_table x = tt
  asked_keys s (bisecting l) x = tt
  asked_keys s (asks_middle l) x =
      let q = row_along k b s l.along (middle l) in
      let rest = (answer_at b l.along).rest in
      (keys-append k (access_word b q) (drop (middle l) rest)).1
      (access_keys w q (along_inside w s x.0.closed l.along (middle l) x.0.along_in), (keys_take k (middle l) rest (w.spelt.answer l.along x.0.along_in).of_keys).1)
  asked_keys s (larger u) x = tt
  asked_keys s broken x = tt

  asked_new : (s : List ℕ) (p : Phase) → InPhase k n b s bisected refutes last p → waits_in p ≡ 1 → New b (asked_in k b s p)
  asked_new s filling x h = absurd (omega arith)
  asked_new s (asks_cell u e) x h = x.1.unasked
  asked_new s shows_table x h = absurd (omega arith)
  asked_new s (bisecting l) x h = absurd (omega arith)
  asked_new s (asks_middle l) x h = x.1.unasked
  asked_new s (larger u) x h = absurd (omega arith)
  asked_new s broken x h = absurd (omega arith)

  asked_short_in : (s : List ℕ) (p : Phase) → InPhase k n b s bisected refutes last p → length (asked_in k b s p) ≤ b.letters + n
  asked_short_in s filling x = omega arith
  asked_short_in s (asks_cell u e) x =
      omega (arith, length-append (edge_word k b u) (suffix_word b e), edge_short w u x.1.edge_in, (w.spelt.suffix e x.1.suffix_in).short, w.limits.rows_most)
  asked_short_in s shows_table x = omega arith
  asked_short_in s (bisecting l) x = omega arith
  asked_short_in s (asks_middle l) x =
      let q = row_along k b s l.along (middle l) in
      let rest = (answer_at b l.along).rest in
      let q_in = along_inside w s x.0.closed l.along (middle l) x.0.along_in in
      omega (arith, length-append (access_word b q) (drop (middle l) rest), length-drop (middle l) rest, access_short w q q_in, q_in, (w.spelt.answer l.along x.0.along_in).short, w.limits.rows_most)
  asked_short_in s (larger u) x = omega arith
  asked_short_in s broken x = omega arith

  shown_in : (s : List ℕ) (p : Phase) → InPhase k n b s bisected refutes last p → waits_in p ≡ 2 → (ws : List Word) × IsBorneOut k last (hypothesis_in k n b s p) ws (Said (told b))
  shown_in s filling x h = absurd (omega arith)
  shown_in s (asks_cell u e) x h = absurd (omega arith)
  shown_in s shows_table x h =
      (b.access, subst (λ (r : ℕ). IsBorneOut k r (hypothesis_in k n b s shows_table) b.access (Said (told b))) (sym x.all_rows) (borne w s x.closed x.full x.agreed))
  shown_in s (bisecting l) x h = absurd (omega arith)
  shown_in s (asks_middle l) x h = absurd (omega arith)
  shown_in s (larger u) x h = absurd (omega arith)
  shown_in s broken x h = absurd (omega arith)

  hypothesis_short : (s : List ℕ) (p : Phase) → length (hypothesis_in k n b s p) ≤ rows b * (k + 1)
  hypothesis_short s filling = omega arith
  hypothesis_short s (asks_cell u e) = omega arith
  hypothesis_short s shows_table = omega (arith, length-table k n b s)
  hypothesis_short s (bisecting l) = omega arith
  hypothesis_short s (asks_middle l) = omega arith
  hypothesis_short s (larger u) = omega arith
  hypothesis_short s broken = omega arith

pub valid_stands : ValidStands
valid_stands c v =
    let b = c.observed in
    let w = v.formed in
    let t = v.counted in
    let few : length (told b) ≤ fine_words c.keys c.most c.most b.letters = omega (arith, length-told b, count_few w t, refutes_few w t) in
    record {
      keys_least = w.limits.keys_least;
      keys_most = w.limits.keys_most;
      most_least = w.limits.most_least;
      most_most = w.limits.most_most;
      words = told_keys w;
      few = omega (arith, few, fits c.keys c.most b.letters w.limits.keys_least);
      fine = few;
      asking = λ h.
          record {
            word_keys = asked_keys w t c.successors c.phase v.phased;
            unknown = unsaid w t (view c).asked (asked_new w t c.successors c.phase v.phased h);
            room = told_fewer w t c.successors c.phase v.phased (omega (arith, h));
          };
      shown = shown_in w t c.successors c.phase v.phased;
      rows_most = omega (arith, t.shown, w.limits.rows_most);
    }

pub rows_short : RowsShort
rows_short c v = access_short v.formed

pub asked_short : AskedShort
asked_short c v = asked_short_in v.formed v.counted c.successors c.phase v.phased

pub out_fits : OutFits
out_fits c v =
    let room = mul-le-mul_right {m = rows c.observed} {n = c.most} (c.keys + 1) v.formed.limits.rows_most in
    record { asked = omega (arith, asked_short c v); hypothesis = omega (arith, hypothesis_short v.formed v.counted c.successors c.phase, room) }

pub answers_few : AnswersFew
answers_few c v =
    let few = count_few v.formed v.counted in
    record { answers = few; told = omega (arith, few, length-told c.observed); refutes = refutes_few v.formed v.counted }

pub answers_fewer : AnswersFewer
answers_fewer c v h = fewer_in v.formed v.counted c.successors c.phase v.phased h

split_apart : (b : Observations) (u v : Word) → SplitWords b u v → ToldApart (Said (told b)) u v
split_apart b u v x = let r = x.2.2 in apart_by b u v (drop (length u) (word_at b x.0)) x.0 x.2.0 x.1 x.2.1 r.left r.right r.other

pub larger_says : LargerSays
larger_says c u v p =
    let b = c.observed in
    let w = v.formed in
    let x = phase_at v p in
    let word = edge_word c.keys b u in
    let ws = b.access ++ (word ∷ []) in
    let old : (i : ℕ) → i < rows b → access_word b i ≡ get_or ws i [] = λ i h. sym (get_or_append_left b.access (word ∷ []) [] i h) in
    let new : (i : ℕ) → i ≡ rows b → word ≡ get_or ws i [] = λ i e. sym (get_or_push b.access word [] i (sym e)) in
    let last : (j : ℕ) → j < rows b → ToldApart (Said (told b)) word (access_word b j) = λ j h. split_apart b word (access_word b j) (x.apart j h) in (
      ws,
      record {
        apart = λ i j h l ne.
            elim (push_place b.access word i h) [
              | inl hi ↦ elim (push_place b.access word j l) [
                | inl hj ↦ apart_as (old i hi) (old j hj) (access_apart w i j hi hj ne)
                | inr hj ↦ apart_as (old i hi) (new j hj) (apart_sym (last i hi))
              ]
              | inr hi ↦ elim (push_place b.access word j l) [
                | inl hj ↦ apart_as (new i hi) (old j hj) (last j hj)
                | inr hj ↦ absurd (ne (hi ∙ sym hj))
              ]
            ];
        of_keys = λ i h.
            elim (push_place b.access word i h) [
              | inl hi ↦ subst (Keys c.keys) (old i hi) (access_keys w i hi)
              | inr hi ↦ subst (Keys c.keys) (new i hi) (edge_keys w u x.edge_in)
            ];
      },
      length_push b.access word ∙ ap (λ (r : ℕ). r + 1) x.all_rows,
    )

pub broken_says : BrokenSays
broken_says c v p =
    let b = c.observed in
    let x = phase_at v p in
    record {
      word = word_at b x.0;
      one = shown_at b x.0;
      other = shown_at b x.2.0;
      one_said = said_at b x.0 x.1;
      other_said = subst (λ (q : Word). Said (told b) q (shown_at b x.2.0)) (sym x.2.2.0) (said_at b x.2.0 x.2.1);
      differ = x.2.2.1;
    }
