-- The words of the answers of a memory that holds a valid learner.
use Rattle.std.proofs.Common.{◌≡◌, ℕ, ◌<◌, List, length, sym, ap, ◌∙◌, subst, arith}
use Rattle.areas.specs.declared.records.Record.{Record}
use Rattle.areas.specs.Layout.{Dims}
use Rattle.model.specs.Observations.{Answer, answer_at}
use Rattle.model.specs.Pages.{Entry, Page, keyed, part, entry_at, Within}
use Rattle.model.proofs.Spans.{answer_is, entries_long}
use Rattle.store.specs.Decoding.{entry_of, page_of, model_of}
use Rattle.moves.specs.Holding.{Holds}
use Rattle.moves.specs.Observed.{observed_at, page_at}
use Rattle.moves.proofs.Decoded.{answers_read, entry_read}
use Rattle.lookup.specs.Named.{named_rest, Named, AllNamed}

-- The page of the model is the memory's page.
pub as_page : (w : List ℕ) (d : Dims) (P : Page → Type 0) → P (page_at w d) → P (page_of w d)
unfolding model_of
as_page w d P h = h

-- The memory's page is the page of the model.
pub of_page : (w : List ℕ) (d : Dims) (P : Page → Type 0) → P (page_of w d) → P (page_at w d)
unfolding model_of
of_page w d P h = h

-- The record of an answer is of a row and a part of the log.
pub entry_named : (w : List ℕ) (d : Dims) (c : ℕ) (r : Record) → Holds w d → c < length (page_at w d).entries → entry_of r ≡ entry_at (page_at w d) c → Named (page_of w d) r
entry_named w d c r h l e =
    let row : r.row ≡ (answer_at (observed_at w d) c).row = ap (λ (z : Entry). z.row) e ∙ sym (ap (λ (z : Answer). z.row) (answer_is (page_at w d) c)) in
    let within : Within (page_at w d).log (entry_of r).span = subst (λ (z : Entry). Within (page_at w d).log z.span) (sym e) (h.valid.spans.entries c l) in
    as_page w d (λ p. Named p r)
    (record { row_in = omega (arith, row, (h.valid.valid.formed.spelt.answer c (omega (arith, entries_long (page_at w d)))).row_in); part_in = within })

-- What is behind the row in the record of an answer is the answer's rest.
pub entry_rest : (w : List ℕ) (d : Dims) (c : ℕ) (r : Record) → entry_of r ≡ entry_at (page_at w d) c → named_rest (page_of w d) r ≡ (answer_at (observed_at w d) c).rest
entry_rest w d c r e =
    as_page w d (λ p. named_rest p r ≡ (answer_at (observed_at w d) c).rest)
    (ap (λ (z : Entry). keyed z.key (part (page_at w d).log z.span)) e ∙ sym (ap (λ (z : Answer). z.rest) (answer_is (page_at w d) c)))

-- All answers of a valid learner are to words of a row and a part of the log.
pub holds_named : (w : List ℕ) (d : Dims) → Holds w d → AllNamed w d
holds_named w d h c l =
    let inside : c < length (page_at w d).entries = omega (arith, answers_read w d) in
    entry_named w d c _ h inside (sym (entry_read w d c inside))
