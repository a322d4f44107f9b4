-- Parts of the log, and the observations of a page after something was written to it.
use Rattle.std.proofs.Common.{◌≡◌, ℕ, zero, suc, ◌+◌, ◌-◌, ◌/◌, ◌%◌, ◌<◌, ◌≤◌, List, [], ◌∷◌, ◌++◌, map, length, get_or, take, drop, sym, refl, ap, ◌∙◌, subst, inl, inr, arith, length-append, length-drop, length-take}
use Rattle.std.proofs.lemmas.List.{get_or_push, get_or_append_left, drop-append-le, take-append-le, drop-take, drop-drop, drop_at, take_all, map_push, length-map}
use Rattle.machines.specs.Words.{Word}
use Rattle.model.specs.Observations.{Answer, suffix_word, answer_at, leads_to, with_answer, with_letters, with_suffix, cell_answer, mixed_answer}
use Rattle.model.specs.Moves.{refuted_observations}
use Rattle.model.specs.Pages.{
  Span,
  no_span,
  Entry,
  no_entry,
  Page,
  part,
  keyed,
  answer_of,
  observations_of,
  suffix_span,
  entry_at,
  Within,
  Spans,
  add_entry,
  add_letters,
  refuting_entry,
  add_refuting,
  add_suffix,
  later,
  behind,
  span_behind,
  cell_entry,
  mixed_entry,
}
use Rattle.model.proofs.Lists.{map_same, push_place}

pub length-part : (log : List ℕ) (s : Span) → Within log s → length (part log s) ≡ s.size
length-part log s h = omega (arith, length-take s.size (drop s.start log), length-drop s.start log)

part_short : (log : List ℕ) (s : Span) → length (part log s) ≤ s.size
part_short log s = omega (arith, length-take s.size (drop s.start log))

-- A part survives letters added to the log.
pub part-append : (log w : List ℕ) (s : Span) → Within log s → part (log ++ w) s ≡ part log s
part-append log w s h =
    ap (take s.size) (drop-append-le s.start log w (omega arith)) ∙ take-append-le s.size (drop s.start log) w (omega (arith, length-drop s.start log))

-- Dropping letters shifts a part.
pub part_later : (log : List ℕ) (s : Span) (p : ℕ) → p ≤ s.size → part log (later s p) ≡ drop p (part log s)
part_later log s p h =
    let e : s.size ≡ p + (s.size - p) = omega arith in
    sym (ap (λ (z : ℕ). drop p (take z (drop s.start log))) e ∙ drop-take p (s.size - p) (drop s.start log) ∙ ap (take (s.size - p)) (drop-drop p s.start log))

-- The letters added last are a part.
pub part_last : (log w : List ℕ) → part (log ++ w) (record { start = length log; size = length w }) ≡ w
part_last log w = ap (take (length w)) (drop_at log w (length log) refl) ∙ take_all (length w) w (omega arith)

-- The part behind the first letters of an entry's rest.
pub behind_part : (log : List ℕ) (x : ℕ) (s : Span) (q : ℕ) → 0 < q → q ≤ length (keyed x (part log s)) → part log (behind x s q) ≡ drop q (keyed x (part log s))
behind_part log zero s q h l = part_later log s q (omega (arith, part_short log s))
behind_part log (suc x) s zero h l = absurd (omega arith)
behind_part log (suc x) s (suc q) h l =
    let e : suc q - 1 ≡ q = omega arith in
    ap (λ (z : ℕ). part log (later s z)) e ∙ part_later log s q (omega (arith, part_short log s))

pub behind_within : (log : List ℕ) (x : ℕ) (s : Span) (q : ℕ) → 0 < q → q ≤ length (keyed x (part log s)) → Within log s → Within log (behind x s q)
behind_within log zero s q h l w = omega (arith, part_short log s)
behind_within log (suc x) s q h l w = omega (arith, part_short log s)

-- A list's function values, read past the end too.
pub get_or-map_any : {A B : Type 0} (f : A → B) (l : List A) (i : ℕ) (d : A) → get_or (map f l) i (f d) ≡ f (get_or l i d)
get_or-map_any f [] i d = refl
get_or-map_any f (x ∷ l) zero d = refl
get_or-map_any f (x ∷ l) (suc i) d = get_or-map_any f l i d

module _ (p : Page) where
  pub answer_is : (c : ℕ) → answer_at (observations_of p) c ≡ answer_of p.log (entry_at p c)
  answer_is c = get_or-map_any (answer_of p.log) p.entries c no_entry

  pub suffix_is : (e : ℕ) → suffix_word (observations_of p) e ≡ part p.log (suffix_span p e)
  suffix_is e = get_or-map_any (part p.log) p.suffixes e no_span

  pub entries_long : length p.entries ≡ length (observations_of p).answers
  entries_long = sym (length-map p.entries (answer_of p.log))

  pub suffixes_long : length p.suffixes ≡ length (observations_of p).suffixes
  suffixes_long = sym (length-map p.suffixes (part p.log))

  -- The observations after an entry.
  pub observations_entry : (a : Entry) → observations_of (add_entry p a) ≡ with_answer (observations_of p) (answer_of p.log a) (length p.log)
  observations_entry a =
      λ i. record {
        edges = p.edges;
        access = p.access;
        suffixes = map (part p.log) p.suffixes;
        answers = map_push (answer_of p.log) p.entries a i;
        cells = p.cells;
        letters = length p.log;
      }

  -- The observations after a suffix.
  pub observations_suffix : (s : Span) → observations_of (add_suffix p s) ≡ with_suffix (observations_of p) (part p.log s)
  observations_suffix s =
      λ i. record {
        edges = p.edges;
        access = p.access;
        suffixes = map_push (part p.log) p.suffixes s i;
        answers = map (answer_of p.log) p.entries;
        cells = p.cells;
        letters = length p.log;
      }

  -- Letters added to the log change no word.
  pub observations_letters : (w : Word) → Spans p → observations_of (add_letters p w) ≡ with_letters (observations_of p) (length p.log + length w)
  observations_letters w spans =
      let suffixes = map_same (part (p.log ++ w)) (part p.log) p.suffixes no_span (λ e h. part-append p.log w (suffix_span p e) (spans.suffixes e h)) in
      let kept = λ (c : ℕ) (h : c < length p.entries). part-append p.log w (entry_at p c).span (spans.entries c h) in
      let answers = map_same (answer_of (p.log ++ w)) (answer_of p.log) p.entries no_entry (λ c h. λ i. record { row = (entry_at p c).row; rest = keyed (entry_at p c).key (kept c h i); shown = (entry_at p c).shown }) in
      λ i. record { edges = p.edges; access = p.access; suffixes = suffixes i; answers = answers i; cells = p.cells; letters = length-append p.log w i }

  -- The entry for the answer to a cell's word is that answer.
  pub cell_entry_is : (k u e a : ℕ) → answer_of p.log (cell_entry k p u e a) ≡ cell_answer k (observations_of p) u e a
  cell_entry_is k zero e a = λ i. record { row = 0; rest = sym (suffix_is e) i; shown = a }
  cell_entry_is k (suc v) e a = λ i. record { row = v / k; rest = v % k ∷ sym (suffix_is e) i; shown = a }

  -- The part behind the first letters of an entry's rest, in the observations.
  pub span_behind_is : (z q : ℕ) → 0 < q → q ≤ length (answer_at (observations_of p) z).rest → part p.log (span_behind p z q) ≡ drop q (answer_at (observations_of p) z).rest
  span_behind_is z q h l =
      let e = ap (λ (y : Answer). y.rest) (answer_is z) in
      behind_part p.log (entry_at p z).key (entry_at p z).span q h (omega (arith, ap (λ (v : Word). length v) e)) ∙ ap (drop q) (sym e)

  pub span_behind_within : Spans p → (z q : ℕ) → z < length p.entries → 0 < q → q ≤ length (answer_at (observations_of p) z).rest → Within p.log (span_behind p z q)
  span_behind_within spans z q m h l =
      let e = ap (λ (y : Answer). length y.rest) (answer_is z) in
      behind_within p.log (entry_at p z).key (entry_at p z).span q h (omega (arith, e)) (spans.entries z m)

  -- The entry for the answer to a mixed word is that answer.
  pub mixed_entry_is : (k : ℕ) (s : List ℕ) (z q a : ℕ) → 0 < q → q ≤ length (answer_at (observations_of p) z).rest → answer_of p.log (mixed_entry k p s z q a) ≡ mixed_answer k (observations_of p) s z q a
  mixed_entry_is k s z q a h l =
      λ i. record { row = leads_to k s (sym (answer_is z) i).row (take q (sym (answer_is z) i).rest); rest = span_behind_is z q h l i; shown = a }

  pub spans_entry : (a : Entry) → Spans p → Within p.log a.span → Spans (add_entry p a)
  spans_entry a spans w = record { suffixes = spans.suffixes; entries = all }
    where
      all : (c : ℕ) → c < length (p.entries ++ (a ∷ [])) → Within p.log (entry_at (add_entry p a) c).span
      all c h =
          elim (push_place p.entries a c h) [
            | inl l ↦ subst (λ (y : Entry). Within p.log y.span) (sym (get_or_append_left p.entries (a ∷ []) no_entry c l)) (spans.entries c l)
            | inr l ↦ subst (λ (y : Entry). Within p.log y.span) (sym (get_or_push p.entries a no_entry c (sym l))) w
          ]

  pub spans_suffix : (s : Span) → Spans p → Within p.log s → Spans (add_suffix p s)
  spans_suffix s spans w = record { suffixes = all; entries = spans.entries }
    where
      all : (e : ℕ) → e < length (p.suffixes ++ (s ∷ [])) → Within p.log (suffix_span (add_suffix p s) e)
      all e h =
          elim (push_place p.suffixes s e h) [
            | inl l ↦ subst (Within p.log) (sym (get_or_append_left p.suffixes (s ∷ []) no_span e l)) (spans.suffixes e l)
            | inr l ↦ subst (Within p.log) (sym (get_or_push p.suffixes s no_span e (sym l))) w
          ]

  pub spans_letters : (w : Word) → Spans p → Spans (add_letters p w)
  spans_letters w spans =
      let long = length-append p.log w in
      record { suffixes = λ e h. omega (arith, long, spans.suffixes e h); entries = λ c h. omega (arith, long, spans.entries c h) }

-- The observations after a refuting word.
pub observations_refuting : (p : Page) (w : Word) (a : ℕ) → Spans p → observations_of (add_refuting p w a) ≡ refuted_observations (observations_of p) w a
observations_refuting p w a spans =
    let answer : Word → Answer = λ rest. record { row = 0; rest = rest; shown = a } in
    observations_entry (add_letters p w) (refuting_entry (length p.log) w a)
    ∙ (λ i. with_answer (observations_letters p w spans i) (answer (part_last p.log w i)) (length-append p.log w i))

pub spans_refuting : (p : Page) (w : Word) (a : ℕ) → Spans p → Spans (add_refuting p w a)
spans_refuting p w a spans = spans_entry (add_letters p w) (refuting_entry (length p.log) w a) (spans_letters p w spans) (omega (arith, length-append p.log w))

pub spans_cell_entry : (p : Page) (k u e a : ℕ) → Spans p → e < length p.suffixes → Within p.log (cell_entry k p u e a).span
spans_cell_entry p k zero e a spans h = spans.suffixes e h
spans_cell_entry p k (suc v) e a spans h = spans.suffixes e h
