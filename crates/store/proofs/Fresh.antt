-- A memory with nothing told, area by area.
use Rattle.std.proofs.Common.{◌≡◌, ℕ, zero, suc, ◌+◌, ◌*◌, ◌<◌, ◌≤◌, List, [], ◌∷◌, length, get_or, take, drop, set, replicate, sym, refl, ap, ◌∙◌, inl, inr, mul-le-mul, one-add, arith}
use Rattle.std.proofs.lemmas.List.{get_or-replicate, get_or_past, length-replicate}
use Rattle.std.proofs.lemmas.Bool.{cases_lt}
use Rattle.areas.specs.declared.area.Area.TheVariants.{Header, Edges, Access, Sizes, Suffixes, Cells, Successors, Answers, Letters}
use Rattle.areas.specs.declared.area.Area.{Area}
use Rattle.areas.specs.Words.{wide}
use Rattle.areas.specs.Layout.{Dims, place, base_of, size_of, area_of, Limits}
use Rattle.areas.specs.Bulk.{ClearedBefore}
use Rattle.areas.specs.Frames.{Saved}
use Rattle.areas.proofs.Bases.{other_area}
use Rattle.areas.specs.Spans.{span_in}
use Rattle.areas.proofs.Inside.{length-area, get_or-area}
use Rattle.areas.specs.Records.{record_in}
use Rattle.model.specs.Observations.{tabulate}
use Rattle.model.specs.Models.{model_begun}
use Rattle.model.specs.Pages.{Span, no_span}
use Rattle.store.specs.Decoding.{store_mark, letters_word, access_in, suffix_in, entry_of, phase_in, page_of, model_of}
use Rattle.store.specs.Begun.{LaidOut}

-- The most that a product of keys and states can be.
pub few_cells : (k n : ℕ) → k ≤ 64 → n ≤ 1024 → (k + 1) * (n * (n + 2)) ≤ 68290560
few_cells k n hk hn =
    let wide_side : n + 2 ≤ 1026 = omega arith in
    let square : n * (n + 2) ≤ 1024 * 1026 = mul-le-mul hn wide_side in
    let keys : k + 1 ≤ 65 = omega arith in
    let all : (k + 1) * (n * (n + 2)) ≤ 65 * (1024 * 1026) = mul-le-mul keys square in
    omega (arith, all)

-- So many zeros.
abbrev pub zero_words : ℕ → List ℕ
zero_words m = replicate m 0

-- A list of zeros has zeros everywhere.
zero_at : (m i : ℕ) → get_or (zero_words m) i 0 ≡ 0
zero_at m i = elim (cases_lt i m) [ inl l ↦ get_or-replicate m i 0 0 l | inr l ↦ get_or_past (zero_words m) i 0 (omega (arith, l, length-replicate {A = ℕ} m 0)) ]

zero_wide : (m i : ℕ) → wide (zero_words m) i ≡ 0
unfolding wide
zero_wide m i = ap (λ z. z + get_or (zero_words m) (i + 1) 0 * 4294967296) (zero_at m i) ∙ ap (λ z. 0 + z * 4294967296) (zero_at m (i + 1))

zero_suffix : (m e : ℕ) → suffix_in (zero_words m) e ≡ no_span
unfolding span_in
zero_suffix m e = λ i. record { start = zero_wide m (4 * e) i; size = zero_wide m (4 * e + 2) i }

take_one : (n : ℕ) → 1 ≤ n → take 1 (zero_words n) ≡ 0 ∷ []
take_one zero h = absurd (omega (arith, h))
take_one (suc n) h = refl

-- The header of a memory with nothing told.
abbrev pub fresh_header : ℕ → ℕ → List ℕ
fresh_header k n = set (set (set (set (set (replicate 64 0) 0 store_mark) 1 k) 2 n) 3 1) 4 1

fresh_letters : (k n : ℕ) → wide (fresh_header k n) letters_word ≡ 0
unfolding wide
fresh_letters k n = refl

-- The areas of a memory with nothing told.
pub record FreshAreas (w : List ℕ) (d : Dims) : Type 0 where
  pub header : area_of w d Header ≡ fresh_header d.keys d.most
  pub edges : area_of w d Edges ≡ replicate d.most 0
  pub sizes : area_of w d Sizes ≡ replicate d.most 0
  pub suffixes : area_of w d Suffixes ≡ replicate (4 * d.most) 0
  pub cells : area_of w d Cells ≡ replicate ((1 + d.most * d.keys) * d.most) 0

module _ (w : List ℕ) (d : Dims) (some : 1 ≤ d.most) (f : FreshAreas w d) where
  no_log : take (wide (area_of w d Header) letters_word) (area_of w d Letters) ≡ []
  no_log = ap (λ (n : ℕ). take n (area_of w d Letters)) (ap (λ h. wide h letters_word) f.header ∙ fresh_letters d.keys d.most)

  one_edge : take (get_or (area_of w d Header) 3 0) (area_of w d Edges) ≡ 0 ∷ []
  one_edge = ap (λ h. take (get_or h 3 0) (area_of w d Edges)) f.header ∙ (ap (λ e. take 1 e) f.edges ∙ take_one d.most some)

  one_access : tabulate (get_or (area_of w d Header) 3 0) (access_in d.most (area_of w d Sizes) (area_of w d Access)) ≡ [] ∷ []
  one_access =
      ap (λ h. tabulate (get_or h 3 0) (access_in d.most (area_of w d Sizes) (area_of w d Access))) f.header
      ∙ ap (λ (n : ℕ). take n (drop (0 * d.most) (area_of w d Access)) ∷ []) (ap (λ s. get_or s 0 0) f.sizes ∙ zero_at d.most 0)

  one_suffix : tabulate (get_or (area_of w d Header) 4 0) (suffix_in (area_of w d Suffixes)) ≡ no_span ∷ []
  one_suffix =
      ap (λ h. tabulate (get_or h 4 0) (suffix_in (area_of w d Suffixes))) f.header
      ∙ ap (λ (s : Span). s ∷ []) (ap (λ l. suffix_in l 0) f.suffixes ∙ zero_suffix (4 * d.most) 0)

  no_entry : tabulate (get_or (area_of w d Header) 5 0) (λ c. entry_of (record_in (area_of w d Answers) c)) ≡ []
  no_entry = ap (λ h. tabulate (get_or h 5 0) (λ c. entry_of (record_in (area_of w d Answers) c))) f.header

  all_cells : area_of w d Cells ≡ replicate (suc (d.most * d.keys) * d.most) 0
  all_cells = f.cells ∙ ap (λ (m : ℕ). replicate (m * d.most) 0) (one-add (d.most * d.keys))

  pub fresh_model : model_of w d ≡ model_begun d.keys d.most (area_of w d Successors)
  unfolding model_of page_of
  fresh_model = λ i. record {
    keys = d.keys;
    most = d.most;
    page = record { log = no_log i; edges = one_edge i; access = one_access i; suffixes = one_suffix i; entries = no_entry i; cells = all_cells i };
    successors = area_of w d Successors;
    bisected = get_or (f.header i) 8 0;
    refutes = get_or (f.header i) 9 0;
    last = get_or (f.header i) 10 0;
    phase = phase_in (f.header i);
  }

  pub fresh_no_letters : wide (area_of w d Header) letters_word ≡ 0
  fresh_no_letters = ap (λ h. wide h letters_word) f.header ∙ fresh_letters d.keys d.most

-- The words of the header are the first of the memory.
pub header_word : (w : List ℕ) (d : Dims) (i : ℕ) → i < 64 → get_or (area_of w d Header) i 0 ≡ get_or w i 0
unfolding size_of base_of
header_word w d i h = get_or-area w d Header i h ∙ ap (λ (z : ℕ). get_or w z 0) (omega arith)

-- Cleared, and five words of the header written one after the other.
module _ (w cleared marked keyed sized rowed done : List ℕ) (d : Dims) (limits : Limits d) (long : length w ≡ d.length) (k n : ℕ) (ek : k ≡ d.keys) (en : n ≡ d.most)
    (c : ClearedBefore w cleared d Answers) (s : Saved cleared marked d Header 0 store_mark) (t : Saved marked keyed d Header 1 k) (u : Saved keyed sized d Header 2 n) (v : Saved sized rowed d Header 3 1) (x : Saved rowed done d Header 4 1) where
  other_kept : (a : Area) → (a ≡ Header → ⊥) → area_of done d a ≡ area_of cleared d a
  other_kept a ne = x.others a ne ∙ (v.others a ne ∙ (u.others a ne ∙ (t.others a ne ∙ s.others a ne)))

  zeros_of : (a : Area) → place a < 7 → area_of cleared d a ≡ replicate (size_of d a) 0
  zeros_of a h = c.before a h ∙ ap (λ (m : ℕ). replicate m 0) (length-area w d a limits long)

  header_done : area_of done d Header ≡ fresh_header d.keys d.most
  unfolding size_of
  header_done =
      x.here ∙ (ap (λ l. set l 4 1) v.here ∙ (ap (λ l. set (set l 3 1) 4 1) (u.here ∙ ap (set (area_of keyed d Header) 2) en)
      ∙ (ap (λ l. set (set (set l 2 d.most) 3 1) 4 1) (t.here ∙ ap (set (area_of marked d Header) 1) ek) ∙ (ap (λ l. set (set (set (set l 1 d.keys) 2 d.most) 3 1) 4 1) s.here
      ∙ ap (λ l. set (set (set (set (set l 0 store_mark) 1 d.keys) 2 d.most) 3 1) 4 1) (zeros_of Header (omega arith))))))

  fresh_areas : FreshAreas done d
  unfolding size_of
  fresh_areas = record {
    header = header_done;
    edges = other_kept Edges (other_area Edges Header refl) ∙ zeros_of Edges (omega arith);
    sizes = other_kept Sizes (other_area Sizes Header refl) ∙ zeros_of Sizes (omega arith);
    suffixes = other_kept Suffixes (other_area Suffixes Header refl) ∙ zeros_of Suffixes (omega arith);
    cells = other_kept Cells (other_area Cells Header refl) ∙ zeros_of Cells (omega arith);
  }

  word_done : (i : ℕ) → i < 64 → get_or done i 0 ≡ get_or (fresh_header d.keys d.most) i 0
  word_done i h = sym (header_word done d i h) ∙ ap (λ l. get_or l i 0) header_done

  pub laid_fresh : LaidOut w done d
  laid_fresh = record {
    model = fresh_model done d limits.some_states fresh_areas;
    mark = word_done 0 (omega arith);
    keys = word_done 1 (omega arith);
    most = word_done 2 (omega arith);
    no_letters = fresh_no_letters done d limits.some_states fresh_areas;
    long = x.long ∙ (v.long ∙ (u.long ∙ (t.long ∙ (s.long ∙ c.long))));
  }
