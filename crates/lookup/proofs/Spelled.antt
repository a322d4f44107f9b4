-- The words of a page, as parts of the memory.
use Rattle.std.proofs.Common.{◌≡◌, ℕ, zero, suc, ◌+◌, ◌-◌, ◌*◌, ◌<◌, ◌≤◌, List, [], ◌∷◌, ◌++◌, length, get_or, take, drop, refl, sym, ap, ◌∙◌, subst, arith}
use Rattle.std.proofs.lemmas.List.{length-take, take-take, drop-take, length-map, get_or-map}
use Rattle.areas.specs.declared.area.Area.TheVariants.{Header, Access, Sizes, Answers, Letters}
use Rattle.areas.specs.declared.records.Record.{Record}
use Rattle.areas.specs.declared.shape.Shape.{Shape}
use Rattle.areas.specs.Words.{wide}
use Rattle.areas.specs.Layout.{Dims, area_of}
use Rattle.areas.specs.Memories.{Reads}
use Rattle.areas.specs.Records.{record_in}
use Rattle.areas.proofs.Views.{viewed}
use Rattle.machines.specs.Words.{Word}
use Rattle.model.specs.Observations.{Answer, no_answer, count, word_at}
use Rattle.model.specs.Pages.{Entry, no_entry, keyed, answer_of, observations_of}
use Rattle.model.proofs.Tabulating.{length-tabulate, get_d_tabulate}
use Rattle.store.specs.Decoding.{rows_word, answers_word, letters_word, entry_of, access_in, page_of}
use Rattle.std.specs.Option.{SomeIff}
use Rattle.std.specs.Prelude.{Option, Some, None}
use Rattle.spelling.specs.Spelt.{key_first}
use Rattle.lookup.specs.Named.{part_of, named_rest, named_word, Named, AllNamed}

-- A part of a list's front is a part of the list.
part_front : (xs : List ℕ) (n from size : ℕ) → from + size ≤ length (take n xs) → take size (drop from xs) ≡ take size (drop from (take n xs))
part_front xs n from size h =
    let few : from + size ≤ n = omega (arith, length-take n xs) in
    let e : from + (n - from) ≡ n = omega arith in
    let cut : drop from (take n xs) ≡ take (n - from) (drop from xs) =
    subst (λ (z : ℕ). drop from (take z xs) ≡ take (n - from) (drop from xs)) e (drop-take from (n - from) xs) in
    sym (ap (take size) cut ∙ take-take size (n - from) (drop from xs) (omega arith))

-- A key's word less 1, where it is not 0, is the key.
key_less : (k : ℕ) (key : Option ℕ) (r : List ℕ) → SomeIff key (1 ≤ k) (k - 1) → key_first key r ≡ keyed k r
key_less zero None r h = refl
key_less zero (Some x) r h = absurd (omega (arith, h.0))
key_less (suc k) None r h = absurd (h (omega arith))
key_less (suc k) (Some x) r h = ap (λ (z : ℕ). z ∷ r) (omega (arith, h.1))

-- A key, if there is one, and letters of the log spell the rest of the word that they are named by.
pub spelt_rest : (w : List ℕ) (d : Dims) (r : Record) (key : Option ℕ) (rest : List ℕ) → Named (page_of w d) r → SomeIff key (1 ≤ r.key) (r.key - 1) → rest ≡ part_of w d Letters r.start r.size → key_first key rest ≡ named_rest (page_of w d) r
unfolding page_of
spelt_rest w d r key rest named k g =
    key_less r.key key rest k ∙ ap (keyed r.key) (g ∙ part_front (area_of w d Letters) (wide (area_of w d Header) letters_word) r.start r.size named.part_in)

-- The letters of a row's word, perhaps a key, and letters of the log spell the word that they are named by.
pub spelt_named : (w : List ℕ) (d : Dims) (r : Record) (from size : ℕ) (key : Option ℕ) (front rest : List ℕ) → Named (page_of w d) r → SomeIff key (1 ≤ r.key) (r.key - 1) → from ≡ r.row * d.most → size ≡ get_or (area_of w d Sizes) r.row 0 → front ≡ part_of w d Access from size → rest ≡ part_of w d Letters r.start r.size → front ++ key_first key rest ≡ named_word (page_of w d) r
unfolding page_of
spelt_named w d r from size key front rest named k a b f g =
    let rows : ℕ = get_or (area_of w d Header) rows_word 0 in
    let row : front ≡ get_or (page_of w d).access r.row [] =
    f ∙ ap (λ (z : ℕ). part_of w d Access z size) a ∙ ap (part_of w d Access (r.row * d.most)) b
    ∙ sym (get_d_tabulate rows (access_in d.most (area_of w d Sizes) (area_of w d Access)) r.row [] (omega (arith, named.row_in, length-tabulate rows (access_in d.most (area_of w d Sizes) (area_of w d Access))))) in
    λ i. row i ++ spelt_rest w d r key rest named k g i

-- As many answers as the header says.
pub answers_counted : (w : List ℕ) (d : Dims) → count (observations_of (page_of w d)) ≡ get_or (area_of w d Header) answers_word 0
unfolding page_of
answers_counted w d =
    length-map (page_of w d).entries (answer_of (page_of w d).log) ∙ length-tabulate (get_or (area_of w d Header) answers_word 0) (λ c. entry_of (record_in (area_of w d Answers) c))

-- An answer's word is the one that its record names.
pub word_named : (w : List ℕ) (d : Dims) (c : ℕ) → c < get_or (area_of w d Header) answers_word 0 → word_at (observations_of (page_of w d)) c ≡ named_word (page_of w d) (record_in (area_of w d Answers) c)
unfolding page_of
word_named w d c h =
    let n : ℕ = get_or (area_of w d Header) answers_word 0 in
    let entries : ℕ → Entry = λ i. entry_of (record_in (area_of w d Answers) i) in
    ap (λ (a : Answer). get_or (page_of w d).access a.row [] ++ a.rest)
    (get_or-map (answer_of (page_of w d).log) (page_of w d).entries c no_entry no_answer (omega (arith, h, length-tabulate n entries))
    ∙ ap (answer_of (page_of w d).log) (get_d_tabulate n entries c no_entry h))

-- What is spelt by an answer's record is the answer's word.
pub answer_spelt : (w : List ℕ) (d : Dims) (c : ℕ) (r : Record) (word : List ℕ) → AllNamed w d → c < get_or (area_of w d Header) answers_word 0 → r ≡ record_in (area_of w d Answers) c → (Named (page_of w d) r → word ≡ named_word (page_of w d) r) → word ≡ word_at (observations_of (page_of w d)) c
answer_spelt w d c r word all h e spells =
    subst (λ (z : Record). (Named (page_of w d) z → word ≡ named_word (page_of w d) z)) e spells (all c h) ∙ sym (word_named w d c h)

-- What is spelt of a view is so of the memory that it is a view of.
pub spelt_viewed : {words held : List ℕ} {shape laid_for : Shape} {r : Record} {u : Word} → words ≡ held → shape ≡ laid_for → Reads words shape (λ w d. Named (page_of w d) r → u ≡ named_word (page_of w d) r) → Reads held laid_for (λ w d. Named (page_of w d) r → u ≡ named_word (page_of w d) r)
spelt_viewed {r = r} {u = u} = viewed (λ w d. Named (page_of w d) r → u ≡ named_word (page_of w d) r)

-- And the rest of a word.
pub rest_viewed : {words held : List ℕ} {shape laid_for : Shape} {r : Record} {u : Word} → words ≡ held → shape ≡ laid_for → Reads words shape (λ w d. Named (page_of w d) r → u ≡ named_rest (page_of w d) r) → Reads held laid_for (λ w d. Named (page_of w d) r → u ≡ named_rest (page_of w d) r)
rest_viewed {r = r} {u = u} = viewed (λ w d. Named (page_of w d) r → u ≡ named_rest (page_of w d) r)
