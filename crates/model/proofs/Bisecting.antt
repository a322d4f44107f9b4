-- The moves of a search by halves, up to its end.
use Rattle.std.proofs.Common.{◌≡◌, ℕ, suc, ◌+◌, ◌-◌, ◌*◌, ◌<◌, ◌≤◌, List, [], ◌++◌, length, get_or, take, drop, sym, refl, ap, ◌∙◌, subst, inl, inr, mul-le-mul_left, arith, length-drop}
use native.Mathlib.Decide.{ℕ_discrete}
use Rattle.std.proofs.lemmas.List.{take-append-drop, take_all, drop_all, nil_from_length, length_push}
use Rattle.std.proofs.lemmas.Bool.{cases_lt}
use Rattle.machines.specs.Words.{Word, Keys}
use Rattle.machines.proofs.Walks.{keys-append}
use Rattle.model.specs.States.{State, hears}
use Rattle.model.specs.Bits.{bits}
use Rattle.model.specs.Observations.{
  Answer,
  Observations,
  rows,
  suffixes_used,
  count,
  edges_used,
  access_word,
  edge_of,
  answer_at,
  word_of,
  word_at,
  shown_at,
  cell_at,
  one_less,
  Once,
  WellFormed,
  Full,
  Closed,
  leads_to,
  end_row,
  row_along,
  mixed_at,
  with_answer,
  mixed_answer,
}
use Rattle.model.specs.Learners.{Bisection, middle, Bisects}
use Rattle.model.specs.Moves.{first_bisection, WrongAt, StartsABisection, chosen, upper_half, lower_half, narrowed, AsksAMiddle, HearsAMiddle, Narrows}
use Rattle.model.proofs.Digits.{bits_grow, bits_fall}
use Rattle.model.proofs.Extends.{edge_used, seen_cell, word_kept, shown_kept, seen_kept}
use Rattle.model.proofs.Appends.{extends_answer, new_answer, formed_answer, once_answer}
use Rattle.model.proofs.Telling.{told_answer}
use Rattle.model.proofs.Hypotheses.{leads_inside}
use Rattle.model.proofs.Filling.{phase_at, view_at, still}

pub keys_take : (k p : ℕ) (v : Word) → Keys k v → Keys k (take p v) × Keys k (drop p v)
keys_take k p v h = (keys-append k (take p v) (drop p v)).0 (subst (Keys k) (sym (take-append-drop p v)) h)

module _ {k n : ℕ} {b : Observations} (w : WellFormed k n b) (s : List ℕ) (closed : Closed k n b s) where
  -- The rows along an answer's word are rows.
  pub along_inside : (z p : ℕ) → z < count b → row_along k b s z p < rows b
  along_inside z p h =
      let a = w.spelt.answer z h in
      leads_inside w s closed (answer_at b z).row (take p (answer_at b z).rest) a.row_in (keys_take k p (answer_at b z).rest a.of_keys).0

  -- The answer to a mixed word can be added.
  formed_mixed : (z p a : ℕ) → z < count b → WellFormed k n (with_answer b (mixed_answer k b s z p a) b.letters)
  formed_mixed z p a h =
      let old = w.spelt.answer z h in
      let rest = (answer_at b z).rest in
      formed_answer w (mixed_answer k b s z p a) b.letters (omega arith) (along_inside z p h) (keys_take k p rest old.of_keys).1 (omega (arith, length-drop p rest, old.short))

  -- A search along an answer that the table gets wrong can begin.
  pub bisect_starts : Once b → Full k n b → (z : ℕ) → z < count b → WrongAt k n b s z → (bisected : ℕ) → bisected + bits b.letters ≤ rows b * bits b.letters
      → Bisects k n b s bisected (first_bisection k n b s z)
  bisect_starts once full z h wrong bisected spare =
      let row = (answer_at b z).row in
      let rest = (answer_at b z).rest in
      let a = w.spelt.answer z h in
      let q = end_row k b s z in
      let q_in : q < rows b = leads_inside w s closed row rest a.row_in a.of_keys in
      let some_suffix : 0 < suffixes_used b = omega (arith, w.limits.suffixes_least) in
      let p = seen_cell w (edge_of b q) 0 (edge_used w q q_in) some_suffix (full (edge_of b q) 0 (edge_used w q q_in) some_suffix) in
      let right : one_less (cell_at n b (edge_of b q) 0) ≡ p.0 = ap one_less p.1 in
      let ends : word_at b p.0 ≡ access_word b q ++ [] = p.2.word ∙ (λ i. sym (w.spelt.row q q_in).word i ++ w.spelt.empty i) in
      let whole : take (length rest) rest ≡ rest = take_all (length rest) rest (omega arith) in
      let nothing : drop (length rest) rest ≡ [] = drop_all (length rest) rest (omega arith) in
      let empty : (rest ≡ [] → ⊥) = λ e. wrong (p.3 ∙ ap (λ (c : ℕ). suc (shown_at b c)) (once p.0 z p.2.answer_in h (ends ∙ (λ i. access_word b (leads_to k s row (e i)) ++ sym e i)))) in
      record {
        once = once;
        full = full;
        closed = closed;
        along_in = h;
        order = elim (cases_lt 0 (length rest)) [ inl l ↦ l | inr l ↦ absurd (empty (nil_from_length rest (omega arith))) ];
        within = omega arith;
        left_in = h;
        right_in = omega (arith, right, p.2.answer_in);
        left_word = refl;
        right_word = ap (word_at b) right ∙ ends ∙ (λ i. access_word b (leads_to k s row (sym whole i)) ++ sym nothing i);
        other = λ e. wrong (p.3 ∙ ap suc (sym (e ∙ ap (shown_at b) right)));
        few = omega (arith, spare, bits_grow (length rest - 0 - 1) b.letters (omega (arith, a.short)));
      }

pub starts_a_bisection : StartsABisection
starts_a_bisection c s z v p full closed h wrong =
    let f = phase_at v p in
    record { valid = record { formed = v.formed; counted = v.counted; phased = bisect_starts v.formed s closed f.once full z h wrong c.bisected f.spare }; is = view_at c p }

pub asks_a_middle : AsksAMiddle
asks_a_middle c l v p asks = record { valid = record { formed = v.formed; counted = v.counted; phased = (phase_at v p, asks) }; is = refl }

module _ {k n : ℕ} {b : Observations} {s : List ℕ} {bisected : ℕ} {l : Bisection} (x : Bisects k n b s bisected l) (wide : l.lo + 1 < l.hi) where
  narrow_by : (d : ℕ) → d < count b → word_at b d ≡ mixed_at k b s l.along (middle l) → (more : ℕ) → more ≤ suc bisected → (t : Dec (shown_at b d ≡ shown_at b l.left))
      → Bisects k n b s more (chosen t (upper_half l d) (lower_half l d))
  narrow_by d h word more le (yes e) =
      record {
        once = x.once;
        full = x.full;
        closed = x.closed;
        along_in = x.along_in;
        order = omega arith;
        within = x.within;
        left_in = h;
        right_in = x.right_in;
        left_word = word;
        right_word = x.right_word;
        other = λ q. x.other (sym e ∙ q);
        few = omega (arith, x.few, bits_fall (l.hi - l.lo - 1) (l.hi - middle l - 1) (omega arith) (omega arith));
      }
  narrow_by d h word more le (no ne) =
      record {
        once = x.once;
        full = x.full;
        closed = x.closed;
        along_in = x.along_in;
        order = omega arith;
        within = omega (arith, x.within);
        left_in = x.left_in;
        right_in = h;
        left_word = x.left_word;
        right_word = word;
        other = λ q. ne (sym q);
        few = omega (arith, x.few, bits_fall (l.hi - l.lo - 1) (middle l - l.lo - 1) (omega arith) (omega arith));
      }

  -- With an answer to the middle's word the search goes on in one half, and one more place may have been asked about.
  pub narrow : (d : ℕ) → d < count b → word_at b d ≡ mixed_at k b s l.along (middle l) → (more : ℕ) → more ≤ suc bisected → Bisects k n b s more (narrowed b l d)
  narrow d h word more le = narrow_by d h word more le (ℕ_discrete (shown_at b d) (shown_at b l.left))

  -- There is a place left to ask about.
  pub some_left : bisected < rows b * bits b.letters
  some_left = omega (arith, x.few, bits_fall (l.hi - l.lo - 1) 0 (omega arith) (omega arith))

pub narrows : Narrows
narrows c l d v p wide h word = record { valid = record { formed = v.formed; counted = v.counted; phased = narrow (phase_at v p) wide d h word c.bisected (omega arith) }; is = view_at c p }

module _ {k n : ℕ} {b : Observations} (w : WellFormed k n b) (a : Answer) (letters : ℕ) (le : b.letters ≤ letters) where
  -- An answer more changes nothing that was seen.
  pub full_answer : Full k n b → Full k n (with_answer b a letters)
  full_answer full u e h l = omega (arith, seen_kept w (extends_answer w a letters le) u e h l (full u e h l), full u e h l)

  pub closed_answer : {s : List ℕ} → Full k n b → Closed k n b s → Closed k n (with_answer b a letters) s
  closed_answer {s} full closed v h =
      let r = closed v h in
      let kept = seen_kept w (extends_answer w a letters le) in
      let u_in : suc v < edges_used k b = omega arith in
      record {
        row_in = r.row_in;
        same = λ e l.
            let j = edge_of b (get_or s (suc v) 0) in
            let j_used = edge_used w (get_or s (suc v) 0) r.row_in in
            kept (suc v) e u_in l (full (suc v) e u_in l) ∙ r.same e l ∙ sym (kept j e j_used l (full j e j_used l));
      }

  mixed_kept : (s : List ℕ) (z p : ℕ) → z < count b → mixed_at k (with_answer b a letters) s z p ≡ mixed_at k b s z p
  mixed_kept s z p h = ap (λ (y : Answer). access_word b (leads_to k s y.row (take p y.rest)) ++ drop p y.rest) ((extends_answer w a letters le).answer_kept z h)

  -- A search goes on as it was when an answer is added.
  pub bisects_kept : {s : List ℕ} {bisected : ℕ} {l : Bisection} → Bisects k n b s bisected l → Once (with_answer b a letters) → Bisects k n (with_answer b a letters) s bisected l
  bisects_kept {s} {bisected} {l} x once =
      let more = extends_answer w a letters le in
      record {
        once = once;
        full = full_answer x.full;
        closed = closed_answer x.full x.closed;
        along_in = omega (arith, x.along_in, more.answers_more);
        order = x.order;
        within = omega (arith, x.within, ap (λ (y : Answer). length y.rest) (more.answer_kept l.along x.along_in));
        left_in = omega (arith, x.left_in, more.answers_more);
        right_in = omega (arith, x.right_in, more.answers_more);
        left_word = word_kept w more l.left x.left_in ∙ x.left_word ∙ sym (mixed_kept s l.along l.lo x.along_in);
        right_word = word_kept w more l.right x.right_in ∙ x.right_word ∙ sym (mixed_kept s l.along l.hi x.along_in);
        other = λ e. x.other (sym (shown_kept w more l.left x.left_in) ∙ e ∙ shown_kept w more l.right x.right_in);
        few = omega (arith, x.few, mul-le-mul_left {m = bits b.letters} {n = bits letters} (rows b) (bits_grow b.letters letters le));
      }

pub hears_a_middle : HearsAMiddle
hears_a_middle c l a v p =
    let b = c.observed in
    let k = c.keys in
    let s = c.successors in
    let w = v.formed in
    let x = (phase_at v p).0 in
    let q = (phase_at v p).1 in
    let z = l.along in
    let answer = mixed_answer k b s z (middle l) a in
    let w' = formed_mixed w s x.closed z (middle l) a x.along_in in
    let once = once_answer w answer b.letters (omega arith) x.once q.unasked in
    let x' = bisects_kept w answer b.letters (omega arith) x once in
    let long = length_push b.answers answer in
    let word = ap (word_of b) (new_answer w answer b.letters (count b) refl) ∙ sym (mixed_kept w answer b.letters (omega arith) s z (middle l) x.along_in) in
    record {
      valid = record {
        formed = w';
        counted = record {
          narrow = v.counted.narrow;
          all = omega (arith, v.counted.all, long);
          tables = v.counted.tables;
          shown = v.counted.shown;
          halved = some_left x q.wide;
        };
        phased = narrow x' q.wide (count b) (omega (arith, long)) word (suc c.bisected) (omega arith);
      };
      is = ap (still c) (told_answer b answer b.letters) ∙ ap (λ (st : State). hears st a) (view_at c p);
    }
