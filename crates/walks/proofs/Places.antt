-- Places along the rest of an answer of a valid learner.
use Rattle.std.proofs.Common.{◌≡◌, ℕ, ◌^◌, ◌<◌, List, ◌++◌, length, take, sym, ap, ◌∙◌, subst, arith}
use Rattle.areas.specs.declared.records.Record.{Record}
use Rattle.areas.specs.declared.spans.Span as stored
use Rattle.areas.specs.Layout.{Dims}
use Rattle.model.specs.Observations.{access_word, leads_to, row_along, mixed_at, Closed}
use Rattle.model.specs.Pages.{Span, Entry, Within, keyed, part, entry_at, behind, span_behind}
use Rattle.model.proofs.Spans.{answer_is, entries_long, span_behind_is, span_behind_within}
use Rattle.model.proofs.Bisecting.{along_inside}
use Rattle.store.specs.Decoding.{entry_of, model_of}
use Rattle.moves.specs.Additions.{span_value}
use Rattle.moves.specs.Observed.{observed_at, page_at}
use Rattle.moves.proofs.Standing.{log_few}
use Rattle.lookup.specs.Named.{Named, named_word}
use Rattle.lookup.proofs.Held.{as_page}
use Rattle.walks.specs.Along.{PlaceIn, MixedIn}
use Rattle.walks.proofs.Following.{held_formed}

-- The part behind a place lies within the log.
pub behind_inside : (w : List ℕ) (d : Dims) (along place : ℕ) → PlaceIn w d along place → Within (page_at w d).log (span_behind (page_at w d) along place)
behind_inside w d along place h =
    span_behind_within (page_at w d) h.held.valid.spans along place (omega (arith, h.answer_in, entries_long (page_at w d))) h.some h.within

-- The part behind a place, by the answer's record.
pub behind_read : (w : List ℕ) (d : Dims) (along place : ℕ) (r : Record) (span : stored.Span) → length w < 2 ^ 64 → PlaceIn w d along place → (along < length (page_at w d).entries → entry_of r ≡ entry_at (page_at w d) along) → ((behind r.key (entry_of r).span place).start < 2 ^ 64 → span_value span ≡ behind r.key (entry_of r).span place) → span_value span ≡ span_behind (page_at w d) along place
behind_read w d along place r span short h read cuts =
    let e : behind r.key (entry_of r).span place ≡ span_behind (page_at w d) along place =
    ap (λ (z : Entry). behind z.key z.span place) (read (omega (arith, h.answer_in, entries_long (page_at w d)))) in
    cuts (omega (arith, ap (λ (z : Span). z.start) e, behind_inside w d along place h, log_few w d)) ∙ e

-- The record of a row along an answer and the part behind is that of the mixed word.
pub mixed_read : (w : List ℕ) (d : Dims) (along place shown : ℕ) (r : Record) → PlaceIn w d along place → Closed d.keys d.most (observed_at w d) (model_of w d).successors → r.row ≡ row_along d.keys (observed_at w d) (model_of w d).successors along place → r.key ≡ 0 → (entry_of r).span ≡ span_behind (page_at w d) along place → r.shown ≡ shown → MixedIn w d along place shown r
mixed_read w d along place shown r h closed row key span shows =
    let k = d.keys in
    let s = (model_of w d).successors in
    let p = page_at w d in
    let is = answer_is p along in
    let inside = along_inside (held_formed w d h.held) s closed along place h.answer_in in
    record {
      entry = λ i. record { row = (row ∙ (λ j. leads_to k s (is j).row (take place (is j).rest))) i; key = key i; span = span i; shown = shows i };
      named = as_page w d (λ z. Named z r) (record { row_in = omega (arith, row, inside); part_in = subst (Within p.log) (sym span) (behind_inside w d along place h) });
      word =
          as_page w d (λ z. named_word z r ≡ mixed_at k (observed_at w d) s along place)
          (λ i. access_word (observed_at w d) (row i) ++ (ap (λ (x : ℕ). keyed x (part p.log (entry_of r).span)) key ∙ ap (part p.log) span ∙ span_behind_is p along place h.some h.within) i);
    }
