use Rattle.std.proofs.Common.{sym, ◌≡◌, arith, rules}
use Rattle.areas.specs.Words.{wide}
use Rattle.areas.specs.Layout.{area_of}
use Rattle.areas.specs.Shapes.{dims}
use Rattle.areas.proofs.Pairs.{wide_past}
use Rattle.areas.proofs.Inside.{area_short}
use Rattle.areas.proofs.Views.{viewed}
use Rattle.areas.proofs.reading.Readable.load_wide.Goals as goal

pub returns-then-i-size : goal.returns-then-i-size
unfolding wide
returns-then-i-size g c =
    viewed (λ w d. c.joined.result ≡ wide (area_of w d c.args.area) c.args.i) c.view-view.ensures.words c.view-view.ensures.shape
    (search rules)

pub returns-else-i-size : goal.returns-else-i-size
returns-else-i-size g c =
    let w = c.view-view.result.words.now in
    let d = dims c.view-view.result.shape in
    viewed (λ w d. 0 ≡ wide (area_of w d c.args.area) c.args.i) c.view-view.ensures.words c.view-view.ensures.shape
    (sym (wide_past (area_of w d c.args.area) c.args.i (omega (arith, c.size.ensures, area_short w d c.args.area))))
