use Rattle.std.proofs.Common.{◌≡◌, length, refl, arith}
use Rattle.areas.specs.Layout.{area_of}
use Rattle.areas.specs.Shapes.{dims}
use Rattle.areas.proofs.Inside.{area_reach}
use Rattle.areas.proofs.Views.{viewed}
use Rattle.areas.proofs.reading.Readable.reach.Goals as goal

pub returns-then-base-view : goal.returns-then-base-view
returns-then-base-view g c =
    let w = c.view-view.result.words.now in
    let d = dims c.view-view.result.shape in
    let same = viewed (λ z e. length (area_of w d c.args.area) ≡ length (area_of z e c.args.area)) c.view-view.ensures.words c.view-view.ensures.shape refl in
    omega (arith, area_reach w d c.args.area, same, c.base-base.ensures, c.size.ensures)

pub returns-else-base-view : goal.returns-else-base-view
returns-else-base-view g c =
    let w = c.view-view.result.words.now in
    let d = dims c.view-view.result.shape in
    let same = viewed (λ z e. length (area_of w d c.args.area) ≡ length (area_of z e c.args.area)) c.view-view.ensures.words c.view-view.ensures.shape refl in
    omega (arith, area_reach w d c.args.area, same, c.base-base.ensures)
