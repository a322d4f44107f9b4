-- What holds of every store is what reads and writes ask for; and moves one after another lead to the state of their last model.
use Rattle.std.proofs.Common.{◌≡◌, ℕ, zero, suc, ◌+◌, ◌*◌, ◌^◌, ◌<◌, ◌≤◌, List, length, sym, refl, ap, ◌∙◌, subst, mul-le-mul, mul-le-mul_left, one-add, arith}
use mathlib.Core.Option.{some}
use Rattle.std.proofs.lemmas.List.{length-take, length-map}
use Rattle.areas.specs.declared.area.Area.TheVariants.{Header, Letters}
use Rattle.areas.specs.Words.{wide}
use Rattle.areas.specs.Layout.{Dims, answer_count, area_of, Limits}
use Rattle.areas.proofs.Inside.{area_reach}
use Rattle.model.specs.Bits.{bits, fine_words}
use Rattle.model.specs.Learners.{waits_in}
use Rattle.model.specs.Observations.{rows, edges_used, access_word, cell_at}
use Rattle.model.specs.Pages.{answer_of}
use Rattle.model.specs.Models.{Model, ValidModel, learner_of, observed_in, view_model}
use Rattle.model.proofs.Outcomes.{rows_short, answers_few, answers_fewer}
use Rattle.model.proofs.Digits.{digits}
use Rattle.store.specs.Decoding.{dims_of, page_of, model_of}
use Rattle.store.specs.Reading.{Stored, state_of}
use Rattle.store.proofs.Doors.{moved_state}
use Rattle.moves.specs.Making.{LogFits, Makes, MakesBy}
use Rattle.moves.specs.Spelling.{RowIn, EdgeIn}

-- A write from a store to a valid model leaves a memory that holds its state.
pub made_state : (w w' : List ℕ) (d : Dims) (m : Model) → Stored w → d ≡ dims_of w → Makes w w' d m → ValidModel m → state_of w' ≡ some (view_model m)
made_state w w' d m s e h valid =
    moved_state w w' d m s e h.moves (h.fits (subst (LogFits w) (sym e) s.log_fits)) valid

-- One write after another.
pub makes_then : {w w₁ w' : List ℕ} {d : Dims} {m₁ m : Model} → Makes w w₁ d m₁ → Makes w₁ w' d m → Makes w w' d m
makes_then s t = record {
  moves = record {
    model = t.moves.model;
    mark = t.moves.mark ∙ s.moves.mark;
    keys = t.moves.keys ∙ s.moves.keys;
    most = t.moves.most ∙ s.moves.most;
    long = t.moves.long ∙ s.moves.long;
  };
  fits = λ f. t.fits (s.fits f);
}

-- A write that changes a model, after another that made it.
pub makes_by_then : {w w₁ w' : List ℕ} {d : Dims} {m : Model} (change : Model → Model) → Makes w w₁ d m → MakesBy w₁ w' d change → Makes w w' d (change m)
makes_by_then {w₁ = w₁} {w' = w'} {d = d} change s t = makes_then s (subst (λ (z : Model). Makes w₁ w' d (change z)) s.moves.model t)

-- A store is as long as what it is laid out for.
pub store_long : (w : List ℕ) (d : Dims) → d ≡ dims_of w → length w ≡ d.length
store_long w d e = sym (ap (λ (z : Dims). z.length) e)

-- The model of a store is valid.
pub store_valid : (w : List ℕ) (d : Dims) → Stored w → d ≡ dims_of w → ValidModel (model_of w d)
store_valid w d s e = subst (λ (z : Dims). ValidModel (model_of w z)) (sym e) s.valid

-- The model is for as many states as the memory.
model_most : (w : List ℕ) (d : Dims) → (model_of w d).most ≡ d.most
unfolding model_of
model_most w d = refl

model_keys : (w : List ℕ) (d : Dims) → (model_of w d).keys ≡ d.keys
unfolding model_of
model_keys w d = refl

-- A valid model's rows are few, and their access words short.
pub valid_short : (w : List ℕ) (d : Dims) → ValidModel (model_of w d) → (j : ℕ) → j < rows (observed_in (model_of w d)) → length (access_word (observed_in (model_of w d)) j) < d.most
valid_short w d v j h =
    omega (arith, rows_short (learner_of (model_of w d)) v.valid j h, v.valid.formed.limits.rows_most, model_most w d)

-- The rows of a valid model can be read.
pub row_stands : (w : List ℕ) (d : Dims) (j : ℕ) → length w ≡ d.length → ValidModel (model_of w d) → j < rows (observed_in (model_of w d)) → RowIn w d j
row_stands w d j e v h =
    record { long = e; few = omega (arith, v.valid.formed.limits.rows_most, model_most w d); there = h; short = valid_short w d v j h }

-- The edges of a valid model can be read.
pub edge_stands : (w : List ℕ) (d : Dims) (u : ℕ) → length w ≡ d.length → ValidModel (model_of w d) → u < edges_used d.keys (observed_in (model_of w d)) → EdgeIn w d u
edge_stands w d u e v h =
    record { long = e; few = omega (arith, v.valid.formed.limits.rows_most, model_most w d); there = h; short = valid_short w d v }

-- A cell that is a number names an answer.
cell_few : (x n : ℕ) → ((c : ℕ) → x ≡ suc c → c < n) → x ≤ n
cell_few zero n h = omega arith
cell_few (suc c) n h = h c refl

-- The cells of a valid model name answers.
pub cell_stands : (w : List ℕ) (d : Dims) (u e : ℕ) → ValidModel (model_of w d) → u < suc (d.most * d.keys) → e < d.most → cell_at d.most (observed_in (model_of w d)) u e ≤ length (model_of w d).page.entries
unfolding model_of
cell_stands w d u e v h g =
    let p = (model_of w d).page in
    cell_few (cell_at d.most (observed_in (model_of w d)) u e) (length p.entries)
    (λ c q. omega (arith, (v.valid.formed.cells u e c h g q).answer_in, length-map p.entries (answer_of p.log)))

-- The log has no more letters than the memory has words.
pub log_few : (w : List ℕ) (d : Dims) → length (model_of w d).page.log ≤ length w
unfolding model_of page_of
log_few w d =
    omega (arith, length-take (wide (area_of w d Header) 6) (area_of w d Letters), area_reach w d Letters)

-- As many answers as the bound says have room.
fine_fits : (k n l : ℕ) → bits l ≤ 64 → fine_words k n n l ≤ answer_count k n
fine_fits k n l h =
    let cells : suc (n * k) * n ≡ (1 + n * k) * n = ap (λ (z : ℕ). z * n) (sym (one-add (n * k))) in
    omega (arith, cells, mul-le-mul_left {m = bits l} {n = 64} n h)

-- A valid learner's answers fit their area.
pub answers_fit : (w : List ℕ) (d : Dims) → length w < 2 ^ 64 → ValidModel (model_of w d) → length (model_of w d).page.entries ≤ answer_count d.keys d.most
unfolding model_of
answers_fit w d h v =
    let m = model_of w d in
    let l = length m.page.log in
    let few = answers_few (learner_of m) v.valid in
    let digits_few : bits l ≤ 64 = digits 64 l (omega (arith, log_few w d)) in
    omega (arith, few.answers, few.refutes, fine_fits d.keys d.most l digits_few, length-map m.page.entries (answer_of m.page.log))

-- While something is waited for there is room for an answer more.
pub answer_fits : (w : List ℕ) (d : Dims) → length w < 2 ^ 64 → ValidModel (model_of w d) → 0 < waits_in (model_of w d).phase → length (model_of w d).page.entries < answer_count d.keys d.most
answer_fits w d h v g =
    let m = model_of w d in
    let few : bits (length m.page.log) ≤ 64 = digits 64 (length m.page.log) (omega (arith, log_few w d)) in
    let room : fine_words m.keys m.most m.most (length m.page.log) ≤ answer_count d.keys d.most =
    subst (λ (z : ℕ). fine_words m.keys m.most m.most (length m.page.log) ≤ answer_count z d.most) (model_keys w d)
    (subst (λ (z : ℕ). fine_words m.keys m.most m.most (length m.page.log) ≤ answer_count m.keys z) (model_most w d) (fine_fits m.keys m.most (length m.page.log) few)) in
    omega (arith, answers_fewer (learner_of m) v.valid g, room, length-map m.page.entries (answer_of m.page.log))

-- The most answers that there is ever room for.
pub answers_bounded : (d : Dims) → Limits d → answer_count d.keys d.most ≤ 67176448
answers_bounded d l =
    let edges : d.most * d.keys ≤ 1024 * 64 = mul-le-mul l.few_states l.few_keys in
    let cells : (1 + d.most * d.keys) * d.most ≤ 65537 * 1024 = mul-le-mul {n₁ = 1 + d.most * d.keys} {n₂ = 65537} (omega (arith, edges)) l.few_states in
    omega (arith, cells, l.few_states)
