-- A refuting word and its answer are kept, and what follows.
use Rattle.std.proofs.Common.{◌≡◌, ℕ, zero, suc, ◌+◌, ◌-◌, ◌^◌, ◌<◌, ◌≤◌, List, [], ◌∷◌, ◌++◌, length, get_or, Some, None, sym, refl, ap, ◌∙◌, subst, arith}
use Rattle.std.proofs.lemmas.List.{get_or_push}
use Rattle.areas.specs.declared.records.Record.{Record}
use Rattle.areas.specs.declared.area.Area.TheVariants.{Header, Letters}
use Rattle.areas.specs.Words.{wide}
use Rattle.areas.specs.Layout.{Dims, size_of, area_of, Limits}
use Rattle.areas.proofs.Sums.{layout_fits}
use Rattle.machines.specs.Words.{Word}
use Rattle.model.specs.States.{refuted_by}
use Rattle.model.specs.Observations.{Observations, Answer, no_answer, count, cell_at, edge_of, one_less, leads_to, New}
use Rattle.model.specs.Learners.{Bisection, bisecting, broken, waits_in}
use Rattle.model.specs.Moves.{first_bisection, Refuted}
use Rattle.model.specs.Pages.{observations_of, add_entry, add_letters, refuting_entry, add_refuting}
use Rattle.model.specs.Models.{Model, view_model, learner_of, observed_in, model_in, model_refute}
use Rattle.model.proofs.Filling.{phase_at}
use Rattle.model.proofs.Paging.{model_refutes_anew, model_refutes_told}
use Rattle.model.proofs.Spans.{entries_long, observations_refuting}
use Rattle.store.specs.Decoding.{entry_of, page_of, model_of}
use Rattle.moves.specs.declared.phase.Search.{Search}
use Rattle.moves.specs.Additions.{EntryAdded, LettersAdded}
use Rattle.moves.specs.Changes.{on_page, refuted_times}
use Rattle.moves.specs.Holding.{Holds, Turned}
use Rattle.moves.specs.Making.{Makes, MakesBy, ChangesBy}
use Rattle.moves.specs.Observed.{observed_at, page_at}
use Rattle.moves.specs.Phases.{search_value}
use Rattle.moves.proofs.Decoded.{letters_read}
use Rattle.moves.proofs.Holding.{turned_by}
use Rattle.moves.proofs.Standing.{answer_fits, makes_by_then}
use Rattle.lookup.specs.Named.{AllNamed, AnswerTo}
use Rattle.lookup.proofs.Held.{holds_named}
use Rattle.refuting.specs.Showing.{ShowsWord, BeginsSearch, kept_refutation, RoomFor, Refutable}

-- A cell's number without 1.
less_one : (x : ℕ) → x - 1 ≡ one_less x
less_one zero = refl
less_one (suc x) = omega arith

-- The first search along the last answer.
search_along_last : (k n : ℕ) (b : Observations) (s : List ℕ) (word : Word) (a l right : ℕ) → right ≡ one_less (cell_at n b (edge_of b (leads_to k s 0 word)) 0)
    → record { along = count b; lo = 0; hi = length word; left = count b; right = right } ≡ first_bisection k n (record { edges = b.edges; access = b.access; suffixes = b.suffixes; answers = b.answers ++ (record { row = 0; rest = word; shown = a } ∷ []); cells = b.cells; letters = l }) s (count b)
search_along_last k n b s word a l right e =
    let last : Answer = record { row = 0; rest = word; shown = a } in
    let is : get_or (b.answers ++ (last ∷ [])) (count b) no_answer ≡ last = get_or_push b.answers last no_answer (count b) refl in
    λ i. record { along = count b; lo = 0; hi = length (sym is i).rest; left = count b; right = (e ∙ ap (λ (z : Answer). one_less (cell_at n b (edge_of b (leads_to k s z.row z.rest)) 0)) (sym is)) i }

-- The search that is begun is the one along the word, when it is kept.
pub search_begun : (w : List ℕ) (d : Dims) (word : Word) (number right : ℕ) → ShowsWord w d word → number ≡ length (page_at w d).entries → right ≡ cell_at d.most (observed_at w d) (edge_of (observed_at w d) (leads_to d.keys (model_of w d).successors 0 word)) 0 - 1
    → (a : ℕ) → record { along = number; lo = 0; hi = length word; left = number; right = right } ≡ first_bisection d.keys d.most (observations_of (add_refuting (page_at w d) word a)) (model_of w d).successors (length (page_at w d).entries)
search_begun w d word number right s q e a =
    let p = page_at w d in
    let b = observed_at w d in
    let succ = (model_of w d).successors in
    (λ i. record { along = (q ∙ entries_long p) i; lo = 0; hi = length word; left = (q ∙ entries_long p) i; right = right })
    ∙ search_along_last d.keys d.most b succ word a (b.letters + length word) right (e ∙ less_one (cell_at d.most b (edge_of b (leads_to d.keys succ 0 word)) 0))
    ∙ (λ i. first_bisection d.keys d.most (sym (observations_refuting p word a s.holds.valid.spans) i) succ (sym (entries_long p) i))

-- The letters fit behind the log.
letters_room : (w : List ℕ) (d : Dims) (word : Word) → Limits d → Holds w d → RoomFor w d word → wide (area_of w d Header) 6 + length word ≤ size_of d Letters
letters_room w d word l h room =
    let n = length (page_at w d).log + length word in
    let fits = layout_fits.letters d.keys d.most n d.length l.some_keys l.few_keys l.some_states l.few_states (omega (arith, layout_fits.left d.keys d.most n, room, h.long)) in
    omega (arith, fits, letters_read w d l h.long h.fits)

-- The three writes by which a refutation is kept.
pub refutation_kept : (w w₁ w₂ w' : List ℕ) (d : Dims) (word : Word) (a times : ℕ) (r : Record) → Limits d → length w < 2 ^ 64 → ShowsWord w d word → RoomFor w d word → entry_of r ≡ refuting_entry (length (page_at w d).log) word a → times ≡ suc (model_of w d).refutes → LettersAdded w w₁ d word → EntryAdded w₁ w₂ d r → ChangesBy w₂ w' d (λ m. refuted_times m times) → MakesBy w w' d (λ m. kept_refutation m word a)
refutation_kept w w₁ w₂ w' d word a times r l short s room is counted letters entry counting =
    let m = model_of w d in
    let waits : waits_in m.phase ≡ 2 = ap waits_in s.shown in
    let first = letters s.holds.long (letters_room w d word l s.holds room) in
    let same : length (page_at w₁ d).entries ≡ length (page_at w d).entries = ap (λ (z : Model). length z.page.entries) first.moves.model in
    let fits = answer_fits w d short s.holds.valid (omega (arith, waits)) in
    let second = makes_by_then (λ z. on_page z (add_entry z.page (entry_of r))) first (entry (first.moves.long ∙ s.holds.long) (omega (arith, fits, same))) in
    let third = makes_by_then (λ z. refuted_times z times) second (counting (second.moves.long ∙ s.holds.long)) in
    subst (Makes w w' d) (λ i. refuted_times (on_page m (add_entry (add_letters m.page word) (is i))) (counted i)) third

-- There are fewer refutations than states.
pub refutes_few : (w : List ℕ) (d : Dims) (word : Word) → ShowsWord w d word → (model_of w d).refutes < d.most
unfolding model_of
refutes_few w d word s =
    let v = s.holds.valid.valid in
    let x = phase_at v s.shown in
    omega (arith, x.unrefuted, x.all_rows, v.formed.limits.rows_most)

module _ (w w₁ w' : List ℕ) (d : Dims) (word : Word) (a : ℕ) (r : Refutable w d word a) (kept : MakesBy w w₁ d (λ m. kept_refutation m word a)) where
  refuted_table : Refuted (learner_of (model_of w d)) word a
  unfolding model_of
  refuted_table = record { shown = r.shows_word.shown; of_keys = r.shows_word.of_keys; wrong = r.wrong }

  -- A word that was never told of is searched along.
  pub refuted_anew : (search : Search) → BeginsSearch w d word search → (AllNamed w d → AnswerTo (observations_of (page_of w d)) word None) → ChangesBy w₁ w' d (λ m. model_in m (bisecting (search_value search))) → Turned w w' d (refuted_by (view_model (model_of w d)) word a)
  unfolding model_of
  refuted_anew search begins found entered =
      let m = model_of w d in
      let new : New (observed_in m) word = found (holds_named w d r.shows_word.holds) in
      let made = makes_by_then (λ z. model_in z (bisecting (search_value search))) kept (entered (kept.moves.long ∙ r.shows_word.holds.long)) in
      let is : model_in (kept_refutation m word a) (bisecting (search_value search)) ≡ model_refute m word a = ap (λ (z : Bisection). model_in (kept_refutation m word a) (bisecting z)) (begins a) in
      turned_by (subst (Makes w w' d) is made) (model_refutes_anew m word a r.shows_word.holds.valid refuted_table new)

  -- To a word that was told of before there are two answers.
  pub refuted_told : (c : ℕ) → (AllNamed w d → AnswerTo (observations_of (page_of w d)) word (Some c)) → ChangesBy w₁ w' d (λ m. model_in m broken) → Turned w w' d (refuted_by (view_model (model_of w d)) word a)
  unfolding model_of
  refuted_told c found entered =
      let m = model_of w d in
      let answer = found (holds_named w d r.shows_word.holds) in
      let made = makes_by_then (λ z. model_in z broken) kept (entered (kept.moves.long ∙ r.shows_word.holds.long)) in
      turned_by made (model_refutes_told m word a c r.shows_word.holds.valid refuted_table answer.0 answer.1)
