-- The learner as it is kept, on a page: what holds of it, its decision, and the moves as they are written.
use Rattle.std.specs.Prelude.{◌≡◌, ℕ, suc, ◌+◌, ◌<◌, ◌≤◌, List, ◌++◌, length, slice_index}
use Rattle.std.proofs.Math.Logic.Dec
use Rattle.std.proofs.Math.Option.{Option, some}
use Rattle.std.proofs.Math.Decide.{dec_le, map_dec}
use Rattle.machines.specs.Words.{Word}
use Rattle.model.specs.States.{State, Stands, fresh, asks, showing, hears, refuted_by}
use Rattle.model.specs.Observations.{Observations, rows, count, edges_used, suffix_word, edge_of, edge_word, word_at, New, Full, Closed, Agreed, mixed_at, table_of}
use Rattle.model.specs.Learners.{Bisection, middle, Phase, filling, asks_cell, shows_table, bisecting, asks_middle, larger, broken, Learner, view, Asks, AsksAlong, Valid}
use Rattle.model.specs.Moves.{Answered, OtherThanRows, first_bisection, WrongAt, Refuted, narrowed, last_edge}
use Rattle.model.specs.Deciding.{given, dec_all}
use Rattle.model.specs.Decisions.{dec_valid}
use Rattle.model.specs.Pages.{Page, Within, suffix_span, entry_at, Spans, observations_of, add_entry, add_refuting, set_cell, add_row, add_suffix, blank_page, span_behind, cell_entry, mixed_entry}

-- A learner on a page.
pub record Model : Type 0 where
  pub keys : ℕ
  pub most : ℕ
  pub page : Page
  pub successors : List ℕ
  pub bisected : ℕ
  pub refutes : ℕ
  pub last : ℕ
  pub phase : Phase

-- The observations of a model.
abbrev pub observed_in : Model → Observations
observed_in m = observations_of m.page

-- The learner that a model is.
abbrev pub learner_of : Model → Learner
learner_of m =
    record { keys = m.keys; most = m.most; observed = observed_in m; successors = m.successors; bisected = m.bisected; refutes = m.refutes; last = m.last; phase = m.phase }

-- What holds of every model.
pub record ValidModel (m : Model) : Type 0 where
  pub spans : Spans m.page
  pub valid : Valid (learner_of m)

-- What a model is for others.
abbrev pub view_model : Model → State
view_model m = view (learner_of m)

-- A model is valid and is for others as the state says.
pub record ModelAs (m : Model) (st : State) : Type 0 where
  pub valid : ValidModel m
  pub is : view_model m ≡ st

-- Whether a model is valid.
pub dec_model : (m : Model) → Dec (ValidModel m)
dec_model m =
    map_dec (λ h. record { spans = record { suffixes = h.0.0; entries = h.0.1 }; valid = h.1 }) (λ v. ((v.spans.suffixes, v.spans.entries), v.valid))
    (Dec.and
    (Dec.and
    (dec_all {P = λ e. Within m.page.log (suffix_span m.page e)} (λ e. dec_le ((suffix_span m.page e).start + (suffix_span m.page e).size) (length m.page.log)) (length m.page.suffixes))
    (dec_all {P = λ c. Within m.page.log (entry_at m.page c).span} (λ c. dec_le ((entry_at m.page c).span.start + (entry_at m.page c).span.size) (length m.page.log)) (length m.page.entries)))
    (dec_valid (learner_of m)))

-- A reading of memory by the models that it is decoded to.
unfoldable pub reading : (List ℕ → Model) → List ℕ → Option State
reading model_of w = given (dec_model (model_of w)) (view_model (model_of w))

-- What a reading says is what a valid model is, and each valid model is read.
pub record Reads (model_of : List ℕ → Model) : Type 0 where
  pub valid : (w : List ℕ) → ValidModel (model_of w) → reading model_of w ≡ some (view_model (model_of w))
  pub back : (w : List ℕ) (st : State) → reading model_of w ≡ some st → ModelAs (model_of w) st
  pub stands : (w : List ℕ) (st : State) → reading model_of w ≡ some st → Stands st

-- Every reading reads well.
abbrev pub ReadingsStand : Type 0
ReadingsStand = (model_of : List ℕ → Model) → Reads model_of

-- A model with all but its keys and the most states replaced.
abbrev pub with_page : Model → Page → List ℕ → ℕ → ℕ → ℕ → Phase → Model
with_page m p successors bisected refutes last f = record { keys = m.keys; most = m.most; page = p; successors = successors; bisected = bisected; refutes = refutes; last = last; phase = f }

-- A model in another phase.
abbrev pub model_in : Model → Phase → Model
model_in m f = with_page m m.page m.successors m.bisected m.refutes m.last f

-- A model with another page, filling the table.
abbrev pub model_filling : Model → Page → Model
model_filling m p = with_page m p m.successors m.bisected m.refutes m.last filling

-- Of every valid model all holds that is promised of states.
abbrev pub ModelStands : Type 0
ModelStands = (m : Model) → ValidModel m → Stands (view_model m)

-- A model with nothing told, and any successors.
abbrev pub model_begun : ℕ → ℕ → List ℕ → Model
model_begun k n successors = record { keys = k; most = n; page = blank_page k n; successors = successors; bisected = 0; refutes = 0; last = 0; phase = filling }

-- A model begins.
abbrev pub ModelBegins : Type 0
ModelBegins = (k n : ℕ) (successors : List ℕ) → 1 ≤ k → k ≤ 64 → 1 ≤ n → n ≤ 1024 → ModelAs (model_begun k n successors) (fresh k n)

-- A cell is asked about.
abbrev pub ModelAsksCell : Type 0
ModelAsksCell =
    (m : Model) (u e : ℕ) → ValidModel m → m.phase ≡ filling → Asks m.keys m.most (observed_in m) u e
    → ModelAs (model_in m (asks_cell u e)) (asks (view_model m) (edge_word m.keys (observed_in m) u ++ suffix_word (observed_in m) e))

-- The page after the answer to a cell's word.
abbrev pub heard_cell : ℕ → ℕ → Page → ℕ → ℕ → ℕ → Page
heard_cell k n p u e a = set_cell n (add_entry p (cell_entry k p u e a)) u e (length p.entries)

-- A cell is answered.
abbrev pub ModelHearsCell : Type 0
ModelHearsCell =
    (m : Model) (u e a : ℕ) → ValidModel m → m.phase ≡ asks_cell u e → ModelAs (model_filling m (heard_cell m.keys m.most m.page u e a)) (hears (view_model m) a)

-- A cell takes an answer told before.
abbrev pub ModelFillsCell : Type 0
ModelFillsCell =
    (m : Model) (u e d : ℕ) → ValidModel m → m.phase ≡ filling → Answered m.keys m.most (observed_in m) u e d
    → ModelAs (model_filling m (set_cell m.most m.page u e d)) (view_model m)

-- An edge that differs from all rows becomes a row.
abbrev pub ModelAddsRow : Type 0
ModelAddsRow =
    (m : Model) (u : ℕ) → ValidModel m → m.phase ≡ filling → u < edges_used m.keys (observed_in m) → OtherThanRows m.most (observed_in m) u → rows (observed_in m) < m.most
    → ModelAs (model_filling m (add_row m.keys m.page u)) (view_model m)

-- An edge that differs from as many rows as there may be shows that the box is larger.
abbrev pub ModelTooMany : Type 0
ModelTooMany =
    (m : Model) (u : ℕ) → ValidModel m → m.phase ≡ filling → u < edges_used m.keys (observed_in m) → OtherThanRows m.most (observed_in m) u → rows (observed_in m) ≡ m.most
    → ModelAs (model_in m (larger u)) (view_model m)

-- A model with other successors, filling the table.
abbrev pub model_leading : Model → List ℕ → Model
model_leading m successors = with_page m m.page successors m.bisected m.refutes m.last filling

-- While the table is filled, successors may be written over.
abbrev pub ModelSetsSuccessors : Type 0
ModelSetsSuccessors = (m : Model) (successors : List ℕ) → ValidModel m → m.phase ≡ filling → ModelAs (model_leading m successors) (view_model m)

-- The model that shows the table read off.
abbrev pub model_shown : Model → Model
model_shown m = with_page m m.page m.successors m.bisected m.refutes (rows (observed_in m)) shows_table

-- A full and closed table that agrees with every answer is shown, and has more rows than the last one.
abbrev pub ModelShows : Type 0
ModelShows =
    (m : Model) → ValidModel m → m.phase ≡ filling → Full m.keys m.most (observed_in m) → Closed m.keys m.most (observed_in m) m.successors → Agreed m.keys m.most (observed_in m) m.successors
    → ModelAs (model_shown m) (showing (view_model m) (rows (observed_in m)) (table_of m.keys m.most (observed_in m) m.successors)) × ((view_model m).rows < rows (observed_in m))

-- The model that begins to search along answer z.
abbrev pub model_along : Model → ℕ → Model
model_along m z = model_in m (bisecting (first_bisection m.keys m.most (observed_in m) m.successors z))

-- An answer with which a full and closed table doesn't agree is searched along.
abbrev pub ModelStartsBisection : Type 0
ModelStartsBisection =
    (m : Model) (z : ℕ) → ValidModel m → m.phase ≡ filling → Full m.keys m.most (observed_in m) → Closed m.keys m.most (observed_in m) m.successors → z < count (observed_in m)
    → WrongAt m.keys m.most (observed_in m) m.successors z
    → ModelAs (model_along m z) (view_model m)

-- The model after the refutation by a word never told of.
abbrev pub model_refute : Model → Word → ℕ → Model
model_refute m w a =
    with_page m (add_refuting m.page w a) m.successors m.bisected (suc m.refutes) m.last
    (bisecting (first_bisection m.keys m.most (observations_of (add_refuting m.page w a)) m.successors (length m.page.entries)))

-- A refutation by a word never told of: the word is searched along.
abbrev pub ModelRefutesAnew : Type 0
ModelRefutesAnew = (m : Model) (w : Word) (a : ℕ) → ValidModel m → Refuted (learner_of m) w a → New (observed_in m) w → ModelAs (model_refute m w a) (refuted_by (view_model m) w a)

-- The model after the refutation by a word told of before.
abbrev pub model_break : Model → Word → ℕ → Model
model_break m w a = with_page m (add_refuting m.page w a) m.successors m.bisected (suc m.refutes) m.last broken

-- A refutation by a word told of before: then there are two answers to it.
abbrev pub ModelRefutesTold : Type 0
ModelRefutesTold =
    (m : Model) (w : Word) (a d : ℕ) → ValidModel m → Refuted (learner_of m) w a → d < count (observed_in m) → word_at (observed_in m) d ≡ w → ModelAs (model_break m w a) (refuted_by (view_model m) w a)

-- The middle of a search is asked about.
abbrev pub ModelAsksMiddle : Type 0
ModelAsksMiddle =
    (m : Model) (l : Bisection) → ValidModel m → m.phase ≡ bisecting l → AsksAlong m.keys (observed_in m) m.successors l
    → ModelAs (model_in m (asks_middle l)) (asks (view_model m) (mixed_at m.keys (observed_in m) m.successors l.along (middle l)))

-- The page after the answer to a middle's word.
abbrev pub heard_middle : Model → Bisection → ℕ → Page
heard_middle m l a = add_entry m.page (mixed_entry m.keys m.page m.successors l.along (middle l) a)

-- The model after the answer to a middle's word.
abbrev pub model_hear_middle : Model → Bisection → ℕ → Model
model_hear_middle m l a =
    with_page m (heard_middle m l a) m.successors (suc m.bisected) m.refutes m.last (bisecting (narrowed (observations_of (heard_middle m l a)) l (length m.page.entries)))

-- The middle of a search is answered.
abbrev pub ModelHearsMiddle : Type 0
ModelHearsMiddle = (m : Model) (l : Bisection) (a : ℕ) → ValidModel m → m.phase ≡ asks_middle l → ModelAs (model_hear_middle m l a) (hears (view_model m) a)

-- The middle of a search takes an answer told before.
abbrev pub ModelNarrows : Type 0
ModelNarrows =
    (m : Model) (l : Bisection) (d : ℕ) → ValidModel m → m.phase ≡ bisecting l → l.lo + 1 < l.hi → d < count (observed_in m)
    → word_at (observed_in m) d ≡ mixed_at m.keys (observed_in m) m.successors l.along (middle l)
    → ModelAs (model_in m (bisecting (narrowed (observed_in m) l d))) (view_model m)

-- The page after a search.
abbrev pub split_page : ℕ → ℕ → Page → List ℕ → Bisection → Page
split_page k n p successors l =
    add_row k
    (set_cell n (set_cell n (add_suffix p (span_behind p l.along l.hi)) (last_edge k (observations_of p) successors l) (length p.suffixes) l.left)
    (edge_of (observations_of p) (slice_index successors (last_edge k (observations_of p) successors l)))
    (length p.suffixes)
    l.right)
    (last_edge k (observations_of p) successors l)

-- A search ends with one more row and one more suffix.
abbrev pub ModelEndsBisection : Type 0
ModelEndsBisection =
    (m : Model) (l : Bisection) → ValidModel m → m.phase ≡ bisecting l → l.hi ≡ suc l.lo → rows (observed_in m) < m.most
    → ModelAs (model_filling m (split_page m.keys m.most m.page m.successors l)) (view_model m)

-- A search ends where there are as many rows as there may be: the box is larger.
abbrev pub ModelEndsMany : Type 0
ModelEndsMany =
    (m : Model) (l : Bisection) → ValidModel m → m.phase ≡ bisecting l → l.hi ≡ suc l.lo → rows (observed_in m) ≡ m.most
    → ModelAs (model_in m (larger (last_edge m.keys (observed_in m) m.successors l))) (view_model m)
