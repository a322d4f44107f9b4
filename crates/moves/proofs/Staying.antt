-- What a write leaves of a memory, by words of the header and by areas, and what then stays of the model.
use Rattle.std.proofs.Common.{◌≡◌, ℕ, ◌+◌, ◌<◌, Bool, true, not, ◌&&◌, eqb, List, length, get_or, take, sym, refl, ap, ◌∙◌, arith, lit<}
use Rattle.std.proofs.lemmas.Bool.{not-true, and_parts, eqb-false}
use Rattle.std.proofs.lemmas.List.{get_or-set_same, get_or-set_other}
use Rattle.areas.specs.declared.area.Area.{Area}
use Rattle.areas.specs.declared.area.Area.TheVariants.{Header, Edges, Access, Sizes, Suffixes, Cells, Successors, Answers, Letters}
use Rattle.areas.specs.Words.{wide}
use Rattle.areas.specs.Layout.{Dims, place, base_of, size_of, area_of, Limits}
use Rattle.areas.specs.Records.{record_in}
use Rattle.areas.specs.Frames.{Rewritten, Saved, SavedWide}
use Rattle.areas.proofs.Bases.{other_area}
use Rattle.areas.proofs.Inside.{length-area, get_or-area}
use Rattle.areas.proofs.Pairs.{get_or-set_wide, wide_set_wide}
use Rattle.model.specs.Observations.{tabulate}
use Rattle.model.specs.Pages.{Page}
use Rattle.model.specs.Models.{Model}
use Rattle.store.specs.Decoding.{search_in, phase_in, phase_by, access_in, suffix_in, entry_of, page_of, model_of}
use Rattle.moves.specs.Making.{LogFits, Makes}
use Rattle.moves.specs.Changes.{on_page}

-- The words of the header and the areas of which a test says so stay, and so does the length.
pub record Stays (w w' : List ℕ) (d : Dims) (words : ℕ → Bool) (areas : Area → Bool) : Type 0 where
  pub word : (j : ℕ) → words j ≡ true → get_or (area_of w' d Header) j 0 ≡ get_or (area_of w d Header) j 0
  pub area : (b : Area) → areas b ≡ true → area_of w' d b ≡ area_of w d b
  pub long : length w' ≡ length w

-- Every word but one.
abbrev pub word_but : ℕ → ℕ → Bool
word_but i j = not (eqb j i)

-- Every word.
abbrev pub each_word : ℕ → Bool
each_word j = true

-- Every area but one.
abbrev pub area_but : Area → Area → Bool
area_but a b = not (eqb (place b) (place a))

pub area_other : (a b : Area) → area_but a b ≡ true → b ≡ a → ⊥
area_other a b h = other_area b a (not-true (eqb (place b) (place a)) h)

-- After a write of one word of the header all others stay.
pub word_stays : (w w' : List ℕ) (d : Dims) (i v : ℕ) → Saved w w' d Header i v → Stays w w' d (word_but i) (area_but Header)
word_stays w w' d i v s = record {
  word = λ j h. ap (λ (z : List ℕ). get_or z j 0) s.here ∙ get_or-set_other (area_of w d Header) i j v 0 (eqb-false j i (not-true (eqb j i) h));
  area = λ b h. s.others b (area_other Header b h);
  long = s.long;
}

-- After a write of a number of two words to the header all others stay.
pub words_stay : (w w' : List ℕ) (d : Dims) (i v : ℕ) → SavedWide w w' d Header i v → Stays w w' d (λ j. word_but i j && word_but (i + 1) j) (area_but Header)
words_stay w w' d i v s = record {
  word = λ j h.
      let both = and_parts (word_but i j) (word_but (i + 1) j) h in
      ap (λ (z : List ℕ). get_or z j 0) s.here
      ∙ get_or-set_wide (area_of w d Header) i j v (eqb-false j i (not-true (eqb j i) both.0)) (eqb-false j (i + 1) (not-true (eqb j (i + 1)) both.1));
  area = λ b h. s.others b (area_other Header b h);
  long = s.long;
}

-- After a write to one area all others stay, the header among them.
pub areas_stay : (w w' : List ℕ) (d : Dims) (a : Area) (after : List ℕ) → area_but a Header ≡ true → Rewritten w w' d a after → Stays w w' d each_word (area_but a)
areas_stay w w' d a after h s = record {
  word = λ j e. ap (λ (z : List ℕ). get_or z j 0) (s.others Header (area_other a Header h));
  area = λ b e. s.others b (area_other a b e);
  long = s.long;
}

-- What stays after two writes.
pub stays_then : {w w₁ w' : List ℕ} {d : Dims} {k l : ℕ → Bool} {a b : Area → Bool} → Stays w w₁ d k a → Stays w₁ w' d l b → Stays w w' d (λ j. k j && l j) (λ z. a z && b z)
stays_then {k = k} {l = l} {a = a} {b = b} s t = record {
  word = λ j h. let both = and_parts (k j) (l j) h in t.word j both.1 ∙ s.word j both.0;
  area = λ z h. let both = and_parts (a z) (b z) h in t.area z both.1 ∙ s.area z both.0;
  long = t.long ∙ s.long;
}

-- The words of the header are the first of the memory.
header_word : (w : List ℕ) (d : Dims) (j : ℕ) → j < 64 → get_or (area_of w d Header) j 0 ≡ get_or w j 0
unfolding base_of size_of
header_word w d j h = get_or-area w d Header j h ∙ ap (λ (z : ℕ). get_or w z 0) (omega arith)

-- The header of a memory of the right length has 64 words.
pub header_long : (w : List ℕ) (d : Dims) → Limits d → length w ≡ d.length → length (area_of w d Header) ≡ 64
unfolding size_of
header_long w d l e = length-area w d Header l e

-- The word of the header that was written.
pub word_written : (w w' : List ℕ) (d : Dims) (i v : ℕ) → Limits d → length w ≡ d.length → i < 64 → Saved w w' d Header i v → get_or (area_of w' d Header) i 0 ≡ v
word_written w w' d i v l e h s =
    ap (λ (z : List ℕ). get_or z i 0) s.here ∙ get_or-set_same (area_of w d Header) i v 0 (omega (arith, header_long w d l e))

-- The number of two words of the header that was written.
pub words_written : (w w' : List ℕ) (d : Dims) (i v : ℕ) → Limits d → length w ≡ d.length → i + 1 < 64 → SavedWide w w' d Header i v → wide (area_of w' d Header) i ≡ v
words_written w w' d i v l e h s =
    ap (λ (z : List ℕ). wide z i) s.here ∙ wide_set_wide (area_of w d Header) i v (omega (arith, header_long w d l e))

-- A number of two words whose words stay.
pub wide_stays : {w w' : List ℕ} {d : Dims} {k : ℕ → Bool} {a : Area → Bool} (i : ℕ) → Stays w w' d k a → k i ≡ true → k (i + 1) ≡ true → wide (area_of w' d Header) i ≡ wide (area_of w d Header) i
unfolding wide
wide_stays i s p q = omega (arith, s.word i p, s.word (i + 1) q)

pub log_stays : {w w' : List ℕ} {d : Dims} {k : ℕ → Bool} {a : Area → Bool} → Stays w w' d k a → k 6 ≡ true → k 7 ≡ true → a Letters ≡ true → (page_of w' d).log ≡ (page_of w d).log
unfolding page_of
log_stays s p q r = λ i. take (wide_stays 6 s p q i) (s.area Letters r i)

pub edges_stay : {w w' : List ℕ} {d : Dims} {k : ℕ → Bool} {a : Area → Bool} → Stays w w' d k a → k 3 ≡ true → a Edges ≡ true → (page_of w' d).edges ≡ (page_of w d).edges
unfolding page_of
edges_stay s p q = λ i. take (s.word 3 p i) (s.area Edges q i)

pub access_stays : {w w' : List ℕ} {d : Dims} {k : ℕ → Bool} {a : Area → Bool} → Stays w w' d k a → k 3 ≡ true → a Sizes ≡ true → a Access ≡ true → (page_of w' d).access ≡ (page_of w d).access
unfolding page_of
access_stays {d = d} s p q r = λ i. tabulate (s.word 3 p i) (access_in d.most (s.area Sizes q i) (s.area Access r i))

pub suffixes_stay : {w w' : List ℕ} {d : Dims} {k : ℕ → Bool} {a : Area → Bool} → Stays w w' d k a → k 4 ≡ true → a Suffixes ≡ true → (page_of w' d).suffixes ≡ (page_of w d).suffixes
unfolding page_of
suffixes_stay s p q = λ i. tabulate (s.word 4 p i) (suffix_in (s.area Suffixes q i))

pub entries_stay : {w w' : List ℕ} {d : Dims} {k : ℕ → Bool} {a : Area → Bool} → Stays w w' d k a → k 5 ≡ true → a Answers ≡ true → (page_of w' d).entries ≡ (page_of w d).entries
unfolding page_of
entries_stay s p q = λ i. tabulate (s.word 5 p i) (λ c. entry_of (record_in (s.area Answers q i) c))

pub cells_stay : {w w' : List ℕ} {d : Dims} {k : ℕ → Bool} {a : Area → Bool} → Stays w w' d k a → a Cells ≡ true → (page_of w' d).cells ≡ (page_of w d).cells
unfolding page_of
cells_stay s p = s.area Cells p

-- The mark, the keys and the most states.
abbrev pub shape_words : (ℕ → Bool) → Bool
shape_words k = k 0 && (k 1 && k 2)

-- The words that the page is read by.
abbrev pub page_words : (ℕ → Bool) → Bool
page_words k = k 3 && (k 4 && (k 5 && (k 6 && k 7)))

-- The areas that the page is read from.
abbrev pub page_areas : (Area → Bool) → Bool
page_areas a = a Edges && (a Access && (a Sizes && (a Suffixes && (a Cells && (a Answers && a Letters)))))

-- The words that a search is read by.
abbrev pub search_words : (ℕ → Bool) → Bool
search_words k = k 12 && (k 13 && (k 14 && (k 16 && (k 17 && (k 18 && k 19)))))

-- The words that the phase is read by.
abbrev pub phase_words : (ℕ → Bool) → Bool
phase_words k = k 11 && search_words k

-- The three counters that no page has.
abbrev pub other_words : (ℕ → Bool) → Bool
other_words k = k 8 && (k 9 && k 10)

pub page_stays : {w w' : List ℕ} {d : Dims} {k : ℕ → Bool} {a : Area → Bool} → Stays w w' d k a → page_words k ≡ true → page_areas a ≡ true → page_of w' d ≡ page_of w d
page_stays {k = k} {a = a} s h g =
    let h4 = and_parts (k 3) (k 4 && (k 5 && (k 6 && k 7))) h in
    let h5 = and_parts (k 4) (k 5 && (k 6 && k 7)) h4.1 in
    let h6 = and_parts (k 5) (k 6 && k 7) h5.1 in
    let h7 = and_parts (k 6) (k 7) h6.1 in
    let g1 = and_parts (a Edges) (a Access && (a Sizes && (a Suffixes && (a Cells && (a Answers && a Letters))))) g in
    let g2 = and_parts (a Access) (a Sizes && (a Suffixes && (a Cells && (a Answers && a Letters)))) g1.1 in
    let g3 = and_parts (a Sizes) (a Suffixes && (a Cells && (a Answers && a Letters))) g2.1 in
    let g4 = and_parts (a Suffixes) (a Cells && (a Answers && a Letters)) g3.1 in
    let g5 = and_parts (a Cells) (a Answers && a Letters) g4.1 in
    let g6 = and_parts (a Answers) (a Letters) g5.1 in
    λ i. record {
      log = log_stays s h7.0 h7.1 g6.1 i;
      edges = edges_stay s h4.0 g1.0 i;
      access = access_stays s h4.0 g3.0 g2.0 i;
      suffixes = suffixes_stay s h5.0 g4.0 i;
      entries = entries_stay s h6.0 g6.0 i;
      cells = cells_stay s g5.0 i;
    }

-- The search that stays.
pub search_stays : {w w' : List ℕ} {d : Dims} {k : ℕ → Bool} {a : Area → Bool} → Stays w w' d k a → search_words k ≡ true → search_in (area_of w' d Header) ≡ search_in (area_of w d Header)
search_stays {k = k} s h =
    let h12 = and_parts (k 12) (k 13 && (k 14 && (k 16 && (k 17 && (k 18 && k 19))))) h in
    let h13 = and_parts (k 13) (k 14 && (k 16 && (k 17 && (k 18 && k 19)))) h12.1 in
    let h14 = and_parts (k 14) (k 16 && (k 17 && (k 18 && k 19))) h13.1 in
    let h16 = and_parts (k 16) (k 17 && (k 18 && k 19)) h14.1 in
    let h17 = and_parts (k 17) (k 18 && k 19) h16.1 in
    let h18 = and_parts (k 18) (k 19) h17.1 in
    λ i. record {
      along = s.word 12 h12.0 i;
      lo = wide_stays 16 s h16.0 h17.0 i;
      hi = wide_stays 18 s h18.0 h18.1 i;
      left = s.word 13 h13.0 i;
      right = s.word 14 h14.0 i;
    }

pub phase_stays : {w w' : List ℕ} {d : Dims} {k : ℕ → Bool} {a : Area → Bool} → Stays w w' d k a → phase_words k ≡ true → phase_in (area_of w' d Header) ≡ phase_in (area_of w d Header)
phase_stays {k = k} s h =
    let h11 = and_parts (k 11) (search_words k) h in
    let same = search_stays s h11.1 in
    λ i. phase_by (s.word 11 h11.0 i) (same i).along (same i).left (same i)

-- A model by its parts.
pub model_by : (w : List ℕ) (d : Dims) (m : Model) → d.keys ≡ m.keys → d.most ≡ m.most → page_of w d ≡ m.page → area_of w d Successors ≡ m.successors → get_or (area_of w d Header) 8 0 ≡ m.bisected → get_or (area_of w d Header) 9 0 ≡ m.refutes → get_or (area_of w d Header) 10 0 ≡ m.last → phase_in (area_of w d Header) ≡ m.phase → model_of w d ≡ m
unfolding model_of
model_by w d m keys most page successors bisected refutes last phase =
    λ i. record { keys = keys i; most = most i; page = page i; successors = successors i; bisected = bisected i; refutes = refutes i; last = last i; phase = phase i }

-- Where the page changes and nothing else.
pub model_on_page : {w w' : List ℕ} {d : Dims} {k : ℕ → Bool} {a : Area → Bool} (p : Page) → Stays w w' d k a → other_words k ≡ true → phase_words k ≡ true → a Successors ≡ true → page_of w' d ≡ p → model_of w' d ≡ on_page (model_of w d) p
unfolding model_of
model_on_page {w' = w'} {d = d} {k = k} p s h g q e =
    let h8 = and_parts (k 8) (k 9 && k 10) h in
    let h9 = and_parts (k 9) (k 10) h8.1 in
    model_by w' d _ refl refl e (s.area Successors q) (s.word 8 h8.0) (s.word 9 h9.0) (s.word 10 h9.1) (phase_stays s g)

-- A write that leaves the mark, the keys, the most states and the length makes the model that is read after it.
pub makes : {w w' : List ℕ} {d : Dims} {k : ℕ → Bool} {a : Area → Bool} (m : Model) → Stays w w' d k a → shape_words k ≡ true → (LogFits w d → LogFits w' d) → model_of w' d ≡ m → Makes w w' d m
makes {w = w} {w' = w'} {d = d} {k = k} m s h f e =
    let h0 = and_parts (k 0) (k 1 && k 2) h in
    let h1 = and_parts (k 1) (k 2) h0.1 in
    let at : (j : ℕ) → j < 64 → k j ≡ true → get_or w' j 0 ≡ get_or w j 0 = λ j l g. sym (header_word w' d j l) ∙ s.word j g ∙ header_word w d j l in
    record {
      moves = record { model = e; mark = at 0 (lit< tt) h0.0; keys = at 1 (lit< tt) h1.0; most = at 2 (lit< tt) h1.1; long = s.long };
      fits = f;
    }

-- A log whose number of letters stays still fits.
pub fits_still : {w w' : List ℕ} {d : Dims} {k : ℕ → Bool} {a : Area → Bool} → Stays w w' d k a → k 6 ≡ true → k 7 ≡ true → LogFits w d → LogFits w' d
fits_still s p q h = omega (arith, wide_stays 6 s p q, h)
