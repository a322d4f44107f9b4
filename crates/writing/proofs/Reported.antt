-- What each phase wants.
use Rattle.std.proofs.Common.{◌≡◌, ℕ, ◌+◌, ◌*◌, ◌<◌, ◌≤◌, List, length, take, drop, sym, ap, ◌∙◌, subst, arith}
use Rattle.areas.specs.declared.records.Record.{Record}
use Rattle.areas.specs.Layout.{Dims}
use Rattle.machines.specs.Words.{Word}
use Rattle.model.specs.States.{out_words}
use Rattle.model.specs.Observations.{rows, mixed_at, table_of}
use Rattle.model.specs.Learners.{middle, asks_cell, asks_middle, shows_table, waits_in, asked_in, hypothesis_in}
use Rattle.model.specs.Pages.{cell_entry}
use Rattle.model.specs.Models.{learner_of, observed_in, view_model}
use Rattle.model.proofs.Filling.{phase_at}
use Rattle.model.proofs.Hypotheses.{length-table}
use Rattle.model.proofs.Outcomes.{out_fits}
use Rattle.model.proofs.Spans.{suffixes_long}
use Rattle.promises.specs.declared.Wanted.{Wanted}
use Rattle.promises.specs.Outcomes.{WordWritten}
use Rattle.store.specs.Decoding.{entry_of, page_of, model_of}
use Rattle.lookup.specs.Named.{Named, named_word}
use Rattle.moves.specs.declared.phase.Search.{Search}
use Rattle.moves.specs.Holding.{Holds}
use Rattle.moves.specs.Observed.{page_at}
use Rattle.moves.specs.Phases.{search_value}
use Rattle.walks.specs.Along.{Mixed}
use Rattle.filling.proofs.Trying.{cell_named, cell_word_named}
use Rattle.writing.specs.Wants.{WordAsked, AsksWord, WrittenTable, Wants}

-- Out has room for the table and for a word, as far as the learner's numbers go.
abbrev pub RoomOut : List ℕ → Dims → List ℕ → Type 0
RoomOut w d o = out_words d.keys d.most (length (page_at w d).log) ≤ length o

-- A word that is asked about, where the learner waits for an answer to it.
asked_wants : (w : List ℕ) (d : Dims) (word : Word) (o o' : List ℕ) (r : Wanted) → waits_in (model_of w d).phase ≡ 1 → (view_model (model_of w d)).asked ≡ word → WordAsked word o o' r → Wants (model_of w d) o o' r
asked_wants w d word o o' r waits is a =
    subst (Wants (model_of w d) o o') (sym a.asks)
    (waits, ap length (sym is), subst (λ (z : Word). WordWritten z o o') (sym is) a.written)

-- The word that is asked about fits out.
asked_fits : (w : List ℕ) (d : Dims) (o : List ℕ) → Holds w d → RoomOut w d o → length (view_model (model_of w d)).asked ≤ length o
unfolding model_of
asked_fits w d o h room = omega (arith, (out_fits (learner_of (model_of w d)) h.valid.valid).asked, room)

-- A record that names the word asked about is written out.
named_wants : (w : List ℕ) (d : Dims) (word : Record) (o o' : List ℕ) (r : Wanted) → Holds w d → RoomOut w d o → waits_in (model_of w d).phase ≡ 1 → Named (page_of w d) word → named_word (page_of w d) word ≡ (view_model (model_of w d)).asked → AsksWord w d word o o' r → Wants (model_of w d) o o' r
named_wants w d word o o' r h room waits named is asks =
    asked_wants w d (named_word (page_of w d) word) o o' r waits (sym is) (asks named (omega (arith, ap length is, asked_fits w d o h room)))

-- A cell's word is asked about.
pub cell_wants : (w : List ℕ) (d : Dims) (u e : ℕ) (word : Record) (o o' : List ℕ) (r : Wanted) → Holds w d → RoomOut w d o → (model_of w d).phase ≡ asks_cell u e → (e < length (page_at w d).suffixes → entry_of word ≡ cell_entry d.keys (page_at w d) u e 0) → AsksWord w d word o o' r → Wants (model_of w d) o o' r
unfolding model_of
cell_wants w d u e word o o' r h room f kept asks =
    let m = model_of w d in
    let a = (phase_at h.valid.valid f).1 in
    let is = kept (omega (arith, a.suffix_in, suffixes_long (page_at w d))) in
    named_wants w d word o o' r h room (ap waits_in f) (cell_named w d u e 0 word h a.edge_in a.suffix_in is)
    (cell_word_named w d u e 0 word h a.edge_in a.suffix_in is ∙ sym (ap (asked_in d.keys (observed_in m) m.successors) f)) asks

-- The word in the middle of a search is asked about.
pub middle_wants : (w : List ℕ) (d : Dims) (s : Search) (place : ℕ) (word : Record) (o o' : List ℕ) (r : Wanted) → Holds w d → RoomOut w d o → (model_of w d).phase ≡ asks_middle (search_value s) → (s.low ≤ s.high → place ≡ middle (search_value s)) → Mixed w d s.along place 0 word → AsksWord w d word o o' r → Wants (model_of w d) o o' r
unfolding model_of
middle_wants w d s place word o o' r h room f at mixed asks =
    let m = model_of w d in
    let x = phase_at h.valid.valid f in
    let here : place ≡ middle (search_value s) = at (omega (arith, x.0.order)) in
    let found = mixed (record { held = h; answer_in = x.0.along_in; some = omega (arith, here, x.1.wide); within = omega (arith, here, x.0.order, x.0.within) }) x.0.closed in
    named_wants w d word o o' r h room (ap waits_in f) found.named
    (found.word ∙ ap (mixed_at d.keys (observed_in m) m.successors s.along) here ∙ sym (ap (asked_in d.keys (observed_in m) m.successors) f)) asks

-- The table is written out.
pub table_wants : (w : List ℕ) (d : Dims) (o o' : List ℕ) (r : ℕ) → Holds w d → RoomOut w d o → (model_of w d).phase ≡ shows_table → WrittenTable w d o o' r → Wants (model_of w d) o o' (Wanted.Table r)
unfolding model_of
table_wants w d o o' r h room f t =
    let m = model_of w d in
    let x = phase_at h.valid.valid f in
    let last : m.last ≡ rows (observed_in m) = x.all_rows in
    let is : (view_model m).hypothesis ≡ table_of d.keys d.most (observed_in m) m.successors = ap (hypothesis_in d.keys d.most (observed_in m) m.successors) f in
    let fits = (out_fits (learner_of m) h.valid.valid).hypothesis in
    let long = length-table d.keys d.most (observed_in m) m.successors in
    let laid = t.laid (omega (arith, fits, room, ap length is, long)) in (
      ap waits_in f,
      t.count ∙ sym last,
      record {
        front = subst (λ (z : ℕ). take (z * (d.keys + 1)) o' ≡ (view_model m).hypothesis) (sym last) (laid.front ∙ sym is);
        rest = subst (λ (z : ℕ). drop (z * (d.keys + 1)) o' ≡ drop (z * (d.keys + 1)) o) (sym last) laid.behind;
      },
    )
