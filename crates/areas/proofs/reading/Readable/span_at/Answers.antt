use Rattle.std.proofs.Common.{◌≡◌, sym, arith}
use Rattle.areas.specs.declared.area.Area.TheVariants.{Suffixes}
use Rattle.areas.specs.declared.spans.Span.{Span}
use Rattle.areas.specs.Layout.{area_of}
use Rattle.areas.specs.Shapes.{dims}
use Rattle.areas.specs.Spans.{span_in}
use Rattle.areas.proofs.Inside.{area_short}
use Rattle.areas.proofs.Ends.{span_same, span_past, size_suffixes}
use Rattle.areas.proofs.Views.{viewed}
use Rattle.areas.proofs.reading.Readable.span_at.Goals as goal

pub returns-then-i-most : goal.returns-then-i-most
returns-then-i-most g c =
    let w = c.view-view.result.words.now in
    let d = dims c.view-view.result.shape in
    viewed (λ w d. record { start = 0; size = 0 } ≡ span_in (area_of w d Suffixes) c.args.i) c.view-view.ensures.words c.view-view.ensures.shape
    (sym (span_past (area_of w d Suffixes) c.args.i (omega (arith, area_short w d Suffixes, size_suffixes d, c.most.ensures))))

pub returns : goal.returns
unfolding span_in
returns g c =
    let read : Span = record { start = c.load_wide.result; size = c.load_wide-2.result } in
    viewed (λ w d. read ≡ span_in (area_of w d Suffixes) c.args.i) c.view-view.ensures.words c.view-view.ensures.shape
    (span_same read (span_in (area_of c.view-view.result.words.now (dims c.view-view.result.shape) Suffixes) c.args.i) c.load_wide.ensures c.load_wide-2.ensures)
