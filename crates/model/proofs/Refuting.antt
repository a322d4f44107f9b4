-- A table is shown, and refuted.
use Rattle.std.proofs.Common.{◌≡◌, ℕ, zero, suc, ◌+◌, ◌*◌, ◌<◌, ◌≤◌, List, ◌∷◌, ◌++◌, length, sym, refl, ap, ◌∙◌, subst, mul-le-mul_left, arith}
use Rattle.std.proofs.lemmas.List.{length_push}
use Rattle.machines.specs.Words.{Word, Keys}
use Rattle.machines.specs.Tables.{shows}
use Rattle.machines.specs.Answers.{Said}
use Rattle.model.specs.States.{State, refuted_by}
use Rattle.model.specs.Bits.{bits}
use Rattle.model.specs.Observations.{
  Answer,
  Observations,
  rows,
  suffixes_used,
  count,
  edge_of,
  answer_at,
  word_of,
  seen,
  one_less,
  told,
  WellFormed,
  Full,
  Closed,
  leads_to,
  table_of,
}
use Rattle.model.specs.Learners.{Phase, shows_table, Learner, hypothesis_in}
use Rattle.model.specs.Moves.{ShowsATable, EdgesTold, EdgesApart, WrongAt, refuted_observations, refute, break_by, Refuted, RefutesAnew, RefutesTold}
use Rattle.model.proofs.Digits.{bits_grow}
use Rattle.model.proofs.Extends.{edge_used, word_kept, shown_kept, seen_kept}
use Rattle.model.proofs.Appends.{extends_answer, new_answer, formed_answer, once_answer}
use Rattle.model.proofs.Telling.{told_answer, access_first}
use Rattle.model.proofs.Hypotheses.{leads_inside, shows_behind_row, shows_word, edges_told, borne}
use Rattle.model.proofs.Filling.{phase_at, view_at, still}
use Rattle.model.proofs.Bisecting.{bisect_starts, full_answer, closed_answer}

pub shows_a_table : ShowsATable
shows_a_table c s v p full closed agreed =
    let f = phase_at v p in (
      record {
        valid = record {
          formed = v.formed;
          counted = record { narrow = v.counted.narrow; all = v.counted.all; tables = omega (arith, v.counted.tables, f.more); shown = omega arith; halved = v.counted.halved };
          phased = record { once = f.once; all_rows = refl; unrefuted = omega (arith, v.counted.tables, f.more); spare = f.spare; full = full; closed = closed; agreed = agreed };
        };
        is = refl;
      },
      f.more,
    )

pub edges_apart : EdgesApart
edges_apart c v p =
    let b = c.observed in
    let w = v.formed in
    let s = c.successors in
    let x = phase_at v p in
    let At : ℕ → Phase → Type 0 = λ r q. EdgesTold c.keys r (hypothesis_in c.keys c.most b s q) b.access (Said (told b)) in
    let here : At (rows b) shows_table = record { borne = borne w s x.closed x.full x.agreed; edges = edges_told w s x.closed } in
    subst (At c.last) (sym p) (subst (λ (r : ℕ). At r shows_table) (sym x.all_rows) here)

-- A search in hand stays in hand as letters are added.
spare_grows : (m r x y : ℕ) → 1 ≤ r → x ≤ y → m + x ≤ r * x → m + y ≤ r * y
spare_grows m zero x y h l p = absurd (omega arith)
spare_grows m (suc r) x y h l p = omega (arith, mul-le-mul_left {m = x} {n = y} r l)

-- What a refutation says of the table that was shown.
wrong_table : (c : Learner) (u : Word) (a : ℕ) → Refuted c u a → shows c.keys (table_of c.keys c.most c.observed c.successors) u ≡ a → ⊥
wrong_table c u a r e = r.wrong (ap (λ (p : Phase). shows c.keys (hypothesis_in c.keys c.most c.observed c.successors p) u) r.shown ∙ e)

module _ {k n : ℕ} {b : Observations} (w : WellFormed k n b) (u : Word) (a : ℕ) (keys : Keys k u) where
  abbrev refuting : Answer
  refuting = record { row = 0; rest = u; shown = a }

  more_letters : b.letters ≤ b.letters + length u
  more_letters = omega arith

  formed_refuting : WellFormed k n (refuted_observations b u a)
  formed_refuting = formed_answer w refuting (b.letters + length u) more_letters w.limits.rows_least keys (omega arith)

  refuting_word : word_of b refuting ≡ u
  refuting_word = ap (λ (z : Word). z ++ u) (access_first w)

  told_refuting : told (refuted_observations b u a) ≡ record { word = u; shown = a } ∷ told b
  told_refuting = told_answer b refuting (b.letters + length u) ∙ (λ i. record { word = refuting_word i; shown = a } ∷ told b)

  -- The last answer, where a table is refuted.
  last_answer : answer_at (refuted_observations b u a) (count b) ≡ refuting
  last_answer = new_answer w refuting (b.letters + length u) (count b) refl

  wrong_after : (s : List ℕ) → Full k n b → Closed k n b s → (shows k (table_of k n b s) u ≡ a → ⊥) → WrongAt k n (refuted_observations b u a) s (count b)
  wrong_after s full closed wrong e =
      let q = leads_to k s 0 u in
      let used = edge_used w q (leads_inside w s closed 0 u w.limits.rows_least keys) in
      let some_suffix : 0 < suffixes_used b = omega (arith, w.limits.suffixes_least) in
      let kept = seen_kept w (extends_answer w refuting (b.letters + length u) more_letters) (edge_of b q) 0 used some_suffix (full (edge_of b q) 0 used some_suffix) in
      let there = ap (λ (y : Answer). seen n (refuted_observations b u a) (edge_of b (leads_to k s y.row y.rest)) 0) last_answer in
      wrong (shows_word w s closed u keys ∙ ap one_less (sym kept ∙ sym there ∙ e) ∙ ap (λ (y : Answer). y.shown) last_answer)

pub refutes_anew : RefutesAnew
refutes_anew c u a v r new =
    let b = c.observed in
    let s = c.successors in
    let w = v.formed in
    let x = phase_at v r.shown in
    let keys = r.of_keys in
    let answer : Answer = record { row = 0; rest = u; shown = a } in
    let letters = b.letters + length u in
    let le : b.letters ≤ letters = omega arith in
    let w' = formed_refuting w u a keys in
    let full = x.full in
    let spare = spare_grows c.bisected (rows b) (bits b.letters) (bits letters) w.limits.rows_least (bits_grow b.letters letters le) x.spare in
    let long = length_push b.answers answer in
    record {
      valid = record {
        formed = w';
        counted = record {
          narrow = v.counted.narrow;
          all = omega (arith, v.counted.all, long);
          tables = x.unrefuted;
          shown = v.counted.shown;
          halved = omega (arith, spare);
        };
        phased = bisect_starts w' s (closed_answer w answer letters le full x.closed) (once_answer w answer letters le x.once (λ d h e. new d h (e ∙ refuting_word w u a keys)))
            (full_answer w answer letters le full)
            (count b)
            (omega (arith, long))
            (wrong_after w u a keys s full x.closed (wrong_table c u a r))
            c.bisected
            spare;
      };
      is = ap (still (refute c u a)) (told_refuting w u a keys) ∙ ap (λ (st : State). refuted_by st u a) (view_at c r.shown);
    }

pub refutes_told : RefutesTold
refutes_told c u a d v r h word =
    let b = c.observed in
    let s = c.successors in
    let w = v.formed in
    let x = phase_at v r.shown in
    let keys = r.of_keys in
    let answer : Answer = record { row = 0; rest = u; shown = a } in
    let letters = b.letters + length u in
    let le : b.letters ≤ letters = omega arith in
    let long = length_push b.answers answer in
    let more = extends_answer w answer letters le in
    let last = last_answer w u a keys in
    let old = w.spelt.answer d h in
    let agrees = ap (shows c.keys (table_of c.keys c.most b s)) (sym word) ∙ shows_behind_row w s x.closed (answer_at b d).row (answer_at b d).rest old.row_in old.of_keys ∙ ap one_less (x.agreed d h) in
    record {
      valid = record {
        formed = formed_refuting w u a keys;
        counted = record {
          narrow = v.counted.narrow;
          all = omega (arith, v.counted.all, long);
          tables = x.unrefuted;
          shown = v.counted.shown;
          halved = omega (arith, v.counted.halved, mul-le-mul_left {m = bits b.letters} {n = bits letters} (rows b) (bits_grow b.letters letters le));
        };
        phased = (
          d,
          omega (arith, long),
          (
            count b,
            omega (arith, long),
            (
              word_kept w more d h ∙ word ∙ sym (ap (word_of b) last ∙ refuting_word w u a keys),
              λ e. wrong_table c u a r (agrees ∙ sym (shown_kept w more d h) ∙ e ∙ ap (λ (y : Answer). y.shown) last),
            ),
          ),
        );
      };
      is = ap (still (break_by c u a)) (told_refuting w u a keys) ∙ ap (λ (st : State). refuted_by st u a) (view_at c r.shown);
    }
