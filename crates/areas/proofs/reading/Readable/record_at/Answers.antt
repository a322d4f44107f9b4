use Rattle.std.proofs.Common.{◌*◌, sym, ◌≡◌, arith}
use Rattle.areas.specs.declared.area.Area.TheVariants.{Answers}
use Rattle.areas.specs.declared.records.Record.{Record}
use Rattle.areas.specs.Layout.{area_of}
use Rattle.areas.specs.Shapes.{dims}
use Rattle.areas.specs.Records.{record_from, record_in}
use Rattle.areas.proofs.Inside.{area_short}
use Rattle.areas.proofs.Entries.{record_same, record_past, size_answers}
use Rattle.areas.proofs.Views.{viewed}
use Rattle.areas.proofs.reading.Readable.record_at.Goals as goal

pub returns-then-i-answers : goal.returns-then-i-answers
returns-then-i-answers g c =
    let w = c.view-view.result.words.now in
    let d = dims c.view-view.result.shape in
    viewed (λ w d. record { row = 0; key = 0; start = 0; size = 0; shown = 0 } ≡ record_in (area_of w d Answers) c.args.i) c.view-view.ensures.words c.view-view.ensures.shape
    (sym (record_past (area_of w d Answers) (8 * c.args.i) (omega (arith, area_short w d Answers, size_answers d, c.answers.ensures.exact))))

pub returns : goal.returns
unfolding record_from
returns g c =
    let read : Record = record { row = c.load.result; key = c.load-2.result; start = c.load_wide.result; size = c.load_wide-2.result; shown = c.load-3.result } in
    viewed (λ w d. read ≡ record_in (area_of w d Answers) c.args.i) c.view-view.ensures.words c.view-view.ensures.shape
    (record_same read (record_in (area_of c.view-view.result.words.now (dims c.view-view.result.shape) Answers) c.args.i) c.load.ensures c.load-2.ensures c.load_wide.ensures c.load_wide-2.ensures c.load-3.ensures)
