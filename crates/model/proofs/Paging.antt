-- The moves of a model, from the learner's.
use Rattle.std.proofs.Common.{◌≡◌, ℕ, zero, suc, ◌<◌, ◌≤◌, [], length, get_or, sym, refl, ap, ◌∙◌, subst, arith}
use mathlib.Core.Option.{some}
use Rattle.model.specs.States.{State, Stands}
use Rattle.model.specs.Observations.{Answer, count, edge_of, answer_at, with_answer, with_cell, with_row, with_suffix, cell_answer}
use Rattle.model.specs.Learners.{middle, asks_cell, bisecting, asks_middle, larger, broken, Learner}
use Rattle.model.specs.Moves.{StandsAs, changed, filling_with, first_bisection, narrowed, last_edge}
use Rattle.model.specs.Deciding.{given}
use Rattle.model.specs.Pages.{Page, Spans, Within, suffix_span, observations_of, set_cell, add_row, span_behind, cell_entry, mixed_entry, blank_page}
use Rattle.model.specs.Models.{
  Model,
  observed_in,
  learner_of,
  view_model,
  ModelAs,
  dec_model,
  reading,
  ReadingsStand,
  model_in,
  model_filling,
  model_begun,
  heard_cell,
  model_leading,
  model_shown,
  model_along,
  model_refute,
  model_break,
  model_hear_middle,
  split_page,
  ModelStands,
  ModelBegins,
  ModelAsksCell,
  ModelHearsCell,
  ModelFillsCell,
  ModelAddsRow,
  ModelTooMany,
  ModelSetsSuccessors,
  ModelShows,
  ModelStartsBisection,
  ModelRefutesAnew,
  ModelRefutesTold,
  ModelAsksMiddle,
  ModelHearsMiddle,
  ModelNarrows,
  ModelEndsBisection,
  ModelEndsMany,
}
use Rattle.model.proofs.Filling.{phase_at, begins, asks_a_cell, hears_a_cell, fills_a_cell, adds_a_row, finds_too_many, sets_successors}
use Rattle.model.proofs.Bisecting.{starts_a_bisection, asks_a_middle, hears_a_middle, narrows}
use Rattle.model.proofs.Refuting.{shows_a_table, refutes_anew, refutes_told}
use Rattle.model.proofs.Splitting.{ends_a_bisection, ends_too_many}
use Rattle.model.proofs.Outcomes.{valid_stands}
use Rattle.model.proofs.Spans.{
  entries_long,
  suffixes_long,
  observations_entry,
  observations_suffix,
  observations_refuting,
  cell_entry_is,
  span_behind_is,
  span_behind_within,
  mixed_entry_is,
  spans_entry,
  spans_suffix,
  spans_refuting,
  spans_cell_entry,
}

-- A model whose learner is another one, of which something holds.
model_by : (m : Model) {c : Learner} {st : State} → Spans m.page → learner_of m ≡ c → StandsAs c st → ModelAs m st
model_by m {c} {st} spans e s = let t = subst (λ (d : Learner). StandsAs d st) (sym e) s in record { valid = record { spans = spans; valid = t.valid }; is = t.is }

pub model_stands : ModelStands
model_stands m v = valid_stands (learner_of m) v.valid

pub model_begins : ModelBegins
model_begins k n s a b c d = model_by (model_begun k n s) (record { suffixes = λ e h. first e; entries = λ i h. absurd (omega arith) }) refl (begins k n s a b c d)
  where
    first : (e : ℕ) → Within [] (suffix_span (blank_page k n) e)
    first zero = omega arith
    first (suc e) = omega arith

pub model_asks_cell : ModelAsksCell
model_asks_cell m u e v p asks = model_by (model_in m (asks_cell u e)) v.spans refl (asks_a_cell (learner_of m) u e v.valid p asks)

-- The observations after the answer to a cell's word.
pub observations_heard_cell : (p : Page) (k n u e a : ℕ)
    → observations_of (heard_cell k n p u e a) ≡ with_cell n (with_answer (observations_of p) (cell_answer k (observations_of p) u e a) (length p.log)) u e (count (observations_of p))
observations_heard_cell p k n u e a =
    let heard = observations_entry p (cell_entry k p u e a) ∙ ap (λ (y : Answer). with_answer (observations_of p) y (length p.log)) (cell_entry_is p k u e a) in
    λ i. with_cell n (heard i) u e (entries_long p i)

pub model_hears_cell : ModelHearsCell
model_hears_cell m u e a v p =
    let q = (phase_at v.valid p).1 in
    let page = m.page in
    let spans = spans_entry page (cell_entry m.keys page u e a) v.spans (spans_cell_entry page m.keys u e a v.spans (omega (arith, suffixes_long page, q.suffix_in))) in
    model_by (model_filling m (heard_cell m.keys m.most page u e a)) (record { suffixes = spans.suffixes; entries = spans.entries })
    (ap (filling_with (learner_of m)) (observations_heard_cell page m.keys m.most u e a))
    (hears_a_cell (learner_of m) u e a v.valid p)

pub model_fills_cell : ModelFillsCell
model_fills_cell m u e d v p a = model_by (model_filling m (set_cell m.most m.page u e d)) (record { suffixes = v.spans.suffixes; entries = v.spans.entries }) refl (fills_a_cell (learner_of m) u e d v.valid p a)

pub model_adds_row : ModelAddsRow
model_adds_row m u v p h other room = model_by (model_filling m (add_row m.keys m.page u)) (record { suffixes = v.spans.suffixes; entries = v.spans.entries }) refl (adds_a_row (learner_of m) u v.valid p h other room)

pub model_too_many : ModelTooMany
model_too_many m u v p h other all = model_by (model_in m (larger u)) v.spans refl (finds_too_many (learner_of m) u v.valid p h other all)

pub model_sets_successors : ModelSetsSuccessors
model_sets_successors m s v p = model_by (model_leading m s) v.spans refl (sets_successors (learner_of m) s v.valid p)

pub model_shows : ModelShows
model_shows m v p full closed agreed = let t = shows_a_table (learner_of m) m.successors v.valid p full closed agreed in (model_by (model_shown m) v.spans refl t.0, t.1)

pub model_starts_bisection : ModelStartsBisection
model_starts_bisection m z v p full closed h wrong = model_by (model_along m z) v.spans refl (starts_a_bisection (learner_of m) m.successors z v.valid p full closed h wrong)

pub model_refutes_anew : ModelRefutesAnew
model_refutes_anew m w a v r new =
    let c = learner_of m in
    let after = observations_refuting m.page w a v.spans in
    model_by (model_refute m w a) (spans_refuting m.page w a v.spans)
    (λ i. changed c (after i) m.successors m.bisected (suc m.refutes) m.last (bisecting (first_bisection m.keys m.most (after i) m.successors (entries_long m.page i))))
    (refutes_anew c w a v.valid r new)

pub model_refutes_told : ModelRefutesTold
model_refutes_told m w a d v r h word =
    let c = learner_of m in
    let after = observations_refuting m.page w a v.spans in
    model_by (model_break m w a) (spans_refuting m.page w a v.spans) (λ i. changed c (after i) m.successors m.bisected (suc m.refutes) m.last broken) (refutes_told c w a d v.valid r h word)

pub model_asks_middle : ModelAsksMiddle
model_asks_middle m l v p asks = model_by (model_in m (asks_middle l)) v.spans refl (asks_a_middle (learner_of m) l v.valid p asks)

pub model_narrows : ModelNarrows
model_narrows m l d v p wide h word = model_by (model_in m (bisecting (narrowed (observed_in m) l d))) v.spans refl (narrows (learner_of m) l d v.valid p wide h word)

pub model_hears_middle : ModelHearsMiddle
model_hears_middle m l a v p =
    let c = learner_of m in
    let b = observed_in m in
    let page = m.page in
    let x = (phase_at v.valid p).0 in
    let wide = (phase_at v.valid p).1.wide in
    let z = l.along in
    let z_in : z < length page.entries = omega (arith, entries_long page, x.along_in) in
    let q_in : middle l ≤ length (answer_at b z).rest = omega (arith, x.order, x.within) in
    let some_letters : 0 < middle l = omega (arith, wide) in
    let same = mixed_entry_is page m.keys m.successors z (middle l) a some_letters q_in in
    let after = observations_entry page (mixed_entry m.keys page m.successors z (middle l) a) ∙ ap (λ (y : Answer). with_answer b y (length page.log)) same in
    model_by (model_hear_middle m l a)
    (spans_entry page (mixed_entry m.keys page m.successors z (middle l) a) v.spans (span_behind_within page v.spans z (middle l) z_in some_letters q_in))
    (λ i. changed c (after i) m.successors (suc m.bisected) m.refutes m.last (bisecting (narrowed (after i) l (entries_long page i))))
    (hears_a_middle c l a v.valid p)

pub model_ends_bisection : ModelEndsBisection
model_ends_bisection m l v p near room =
    let c = learner_of m in
    let b = observed_in m in
    let k = m.keys in
    let n = m.most in
    let page = m.page in
    let s = m.successors in
    let x = phase_at v.valid p in
    let u = last_edge k b s l in
    let r = edge_of b (get_or s u 0) in
    let z_in : l.along < length page.entries = omega (arith, entries_long page, x.along_in) in
    let some_letters : 0 < l.hi = omega (arith, x.order) in
    let after = observations_suffix page (span_behind page l.along l.hi) ∙ ap (with_suffix b) (span_behind_is page l.along l.hi some_letters x.within) in
    let spans = spans_suffix page (span_behind page l.along l.hi) v.spans (span_behind_within page v.spans l.along l.hi z_in some_letters x.within) in
    model_by (model_filling m (split_page k n page s l)) (record { suffixes = spans.suffixes; entries = spans.entries })
    (λ i. filling_with c (with_row k (with_cell n (with_cell n (after i) u (suffixes_long page i) l.left) r (suffixes_long page i) l.right) u))
    (ends_a_bisection c l v.valid p near room)

pub model_ends_many : ModelEndsMany
model_ends_many m l v p near all = model_by (model_in m (larger (last_edge m.keys (observed_in m) m.successors l))) v.spans refl (ends_too_many (learner_of m) l v.valid p near all)

given_yes : {P A : Type 0} (d : Dec P) (x : A) → P → given d x ≡ some x
given_yes (yes p) x h = refl
given_yes (no np) x h = absurd (np h)

given_back : {P A : Type 0} (d : Dec P) (x y : A) → given d x ≡ some y → P × (x ≡ y)
given_back (yes p) x y e = (p, cc)
given_back (no np) x y e = let z : ◌≡◌ {A = ℕ} 0 1 = cc in absurd (omega arith)

pub readings_stand : ReadingsStand
unfolding reading
readings_stand model_of =
    record {
      valid = λ w v. given_yes (dec_model (model_of w)) (view_model (model_of w)) v;
      back = λ w st e. let t = given_back (dec_model (model_of w)) (view_model (model_of w)) st e in record { valid = t.0; is = t.1 };
      stands = λ w st e. let t = given_back (dec_model (model_of w)) (view_model (model_of w)) st e in subst Stands t.1 (model_stands (model_of w) t.0);
    }
