-- Numbers of a model, and the words of the header that they are read from.
use Rattle.std.proofs.Common.{◌≡◌, ℕ, suc, ◌<◌, List, length, get_or, refl, ap, ◌∙◌, arith}
use Rattle.std.proofs.lemmas.List.{length-take, length-take-le, get_or-take, get_or-map}
use Rattle.areas.specs.declared.area.Area.TheVariants.{Header, Access, Sizes, Suffixes, Cells, Successors, Answers, Letters}
use Rattle.areas.specs.Words.{wide}
use Rattle.areas.specs.Layout.{Dims, area_of, Limits}
use Rattle.areas.specs.Records.{record_in}
use Rattle.areas.proofs.Inside.{length-area}
use Rattle.model.specs.Observations.{Answer, no_answer, seen_by}
use Rattle.model.specs.Pages.{Page, no_span, no_entry, answer_of, observations_of, suffix_span, entry_at}
use Rattle.model.proofs.Tabulating.{length-tabulate, get_d_tabulate}
use Rattle.store.specs.Decoding.{access_in, suffix_in, entry_of, page_of, model_of}
use Rattle.moves.specs.Making.{LogFits}

pub rows_read : (w : List ℕ) (d : Dims) → length (model_of w d).page.access ≡ get_or (area_of w d Header) 3 0
unfolding model_of page_of
rows_read w d = length-tabulate (get_or (area_of w d Header) 3 0) (access_in d.most (area_of w d Sizes) (area_of w d Access))

pub suffixes_read : (w : List ℕ) (d : Dims) → length (model_of w d).page.suffixes ≡ get_or (area_of w d Header) 4 0
unfolding model_of page_of
suffixes_read w d = length-tabulate (get_or (area_of w d Header) 4 0) (suffix_in (area_of w d Suffixes))

pub answers_read : (w : List ℕ) (d : Dims) → length (model_of w d).page.entries ≡ get_or (area_of w d Header) 5 0
unfolding model_of page_of
answers_read w d = length-tabulate (get_or (area_of w d Header) 5 0) (λ c. entry_of (record_in (area_of w d Answers) c))

pub letters_read : (w : List ℕ) (d : Dims) → Limits d → length w ≡ d.length → LogFits w d → length (model_of w d).page.log ≡ wide (area_of w d Header) 6
unfolding model_of page_of
letters_read w d l e f = length-take-le (wide (area_of w d Header) 6) (area_of w d Letters) (omega (arith, length-area w d Letters l e))

pub bisected_read : (w : List ℕ) (d : Dims) → (model_of w d).bisected ≡ get_or (area_of w d Header) 8 0
unfolding model_of
bisected_read w d = refl

pub refutes_read : (w : List ℕ) (d : Dims) → (model_of w d).refutes ≡ get_or (area_of w d Header) 9 0
unfolding model_of
refutes_read w d = refl

pub last_read : (w : List ℕ) (d : Dims) → (model_of w d).last ≡ get_or (area_of w d Header) 10 0
unfolding model_of
last_read w d = refl

pub successors_read : (w : List ℕ) (d : Dims) → (model_of w d).successors ≡ area_of w d Successors
unfolding model_of
successors_read w d = refl

-- An entry is read from its record.
pub entry_read : (w : List ℕ) (d : Dims) (c : ℕ) → c < length (model_of w d).page.entries → entry_at (model_of w d).page c ≡ entry_of (record_in (area_of w d Answers) c)
unfolding model_of page_of
entry_read w d c h =
    get_d_tabulate (get_or (area_of w d Header) 5 0) (λ x. entry_of (record_in (area_of w d Answers) x)) c no_entry (omega (arith, answers_read w d))

-- A suffix is read from its span.
pub suffix_read : (w : List ℕ) (d : Dims) (e : ℕ) → e < length (model_of w d).page.suffixes → suffix_span (model_of w d).page e ≡ suffix_in (area_of w d Suffixes) e
unfolding model_of page_of
suffix_read w d e h = get_d_tabulate (get_or (area_of w d Header) 4 0) (suffix_in (area_of w d Suffixes)) e no_span (omega (arith, suffixes_read w d))

-- A letter of the log is read from its area.
pub letter_read : (w : List ℕ) (d : Dims) (i : ℕ) → i < length (model_of w d).page.log → get_or (model_of w d).page.log i 0 ≡ get_or (area_of w d Letters) i 0
unfolding model_of page_of
letter_read w d i h =
    let n = wide (area_of w d Header) 6 in
    get_or-take n (area_of w d Letters) i 0 (omega (arith, length-take n (area_of w d Letters)))

pub cells_read : (w : List ℕ) (d : Dims) → (model_of w d).page.cells ≡ area_of w d Cells
unfolding model_of page_of
cells_read w d = refl

-- A cell that has an answer shows what the answer showed.
pub seen_at : (p : Page) (x c : ℕ) → x ≡ suc c → c < length p.entries → seen_by (observations_of p) x ≡ suc (entry_at p c).shown
seen_at p x c e h =
    ap (seen_by (observations_of p)) e ∙ ap (λ (z : Answer). suc z.shown) (get_or-map (answer_of p.log) p.entries c no_entry no_answer h)
