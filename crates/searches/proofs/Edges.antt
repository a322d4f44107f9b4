-- The edge at the place where a search ends.
use Rattle.std.proofs.Common.{◌≡◌, ℕ, suc, ◌+◌, ◌*◌, ◌<◌, ◌≤◌, List, get_or, ap, ◌∙◌, mul-le-mul, arith}
use Rattle.machines.specs.Words.{Word}
use Rattle.areas.specs.declared.records.Record.{Record}
use Rattle.areas.specs.Layout.{Dims}
use Rattle.model.specs.Observations.{Observations, rows, edges_used, answer_at, WellFormed, row_along}
use Rattle.model.specs.Learners.{Bisection, Bisects}
use Rattle.model.specs.Moves.{last_edge}
use Rattle.model.proofs.Bisecting.{along_inside}
use Rattle.model.proofs.Hypotheses.{edge_below}
use Rattle.model.proofs.Splitting.{keys_at}
use Rattle.store.specs.Decoding.{model_of}
use Rattle.moves.specs.declared.phase.Search.{Search}
use Rattle.moves.specs.Observed.{observed_at}
use Rattle.moves.specs.Phases.{search_value}
use Rattle.walks.proofs.Following.{held_formed, ReadAnswer, answer_read}
use Rattle.searches.specs.Searching.{Searching}
use Rattle.searches.proofs.Searched.{searched}

-- The edge at the lower end of a search is in use.
pub last_used : {k n : ℕ} {b : Observations} {s : List ℕ} {bisected : ℕ} {l : Bisection} → WellFormed k n b → Bisects k n b s bisected l → last_edge k b s l < edges_used k b
last_used {k} {n} {b} {s} {bisected} {l} f x =
    let rest = (answer_at b l.along).rest in
    omega (arith, edge_below f s x.closed (row_along k b s l.along l.lo) (get_or rest l.lo 0) (along_inside f s x.closed l.along l.lo x.along_in) (keys_at k rest l.lo (f.spelt.answer l.along x.along_in).of_keys (omega (arith, x.order, x.within))))

-- There are at most 65,537 edges.
pub edges_few : {k n : ℕ} {b : Observations} → WellFormed k n b → edges_used k b ≤ 65537
edges_few {k} {n} {b} f =
    let most : rows b ≤ 1024 = omega (arith, f.limits.rows_most, f.limits.most_most) in
    omega (arith, mul-le-mul {n₁ = rows b} {m₁ = k} {n₂ = 1024} {m₂ = 64} most f.limits.keys_most)

-- The edge, as it is read.
pub last_read : (w : List ℕ) (d : Dims) (s : Search) (row key edge : ℕ) (r : Record) (rest : Word) → Searching w d s → row ≡ row_along d.keys (observed_at w d) (model_of w d).successors s.along s.low → ReadAnswer w d s.along r rest → key ≡ get_or rest s.low 0 → (suc (row * d.keys + key) < 4294967296 → edge ≡ suc (row * d.keys + key)) → edge ≡ last_edge d.keys (observed_at w d) (model_of w d).successors (search_value s)
last_read w d s row key edge r rest h e read q numbers =
    let x = searched w d s h in
    let f = held_formed w d h.held in
    let letter = q ∙ ap (λ (v : Word). get_or v s.low 0) (answer_read w d s.along r rest h.held x.along_in read).1 in
    let is : suc (row * d.keys + key) ≡ last_edge d.keys (observed_at w d) (model_of w d).successors (search_value s) = λ i. suc (e i * d.keys + letter i) in
    numbers (omega (arith, is, last_used f x, edges_few f)) ∙ is
