use Rattle.std.proofs.Common.{ℕ, ◌+◌, ◌<◌, ◌≤◌, get_or, sym, ap, ◌∙◌, slice_index, ◌≡◌, arith}
use Rattle.areas.specs.Layout.{area_of, size_of}
use Rattle.areas.specs.Shapes.{dims}
use Rattle.areas.proofs.Inside.{get_or-area, get_or-area_past}
use Rattle.areas.proofs.Views.{viewed}
use Rattle.areas.proofs.reading.Readable.load.Goals as goal

pub returns-then-i-size : goal.returns-then-i-size
returns-then-i-size g c =
    let w = c.view-view.result.words.now in
    let d = dims c.view-view.result.shape in
    let h : c.args.i < size_of d c.args.area = omega (arith, c.size.ensures) in
    viewed (λ w d. c.get.result ≡ slice_index (area_of w d c.args.area) c.args.i) c.view-view.ensures.words c.view-view.ensures.shape
    (c.get.ensures ∙ ap (λ (z : ℕ). get_or w (z + c.args.i) 0) c.base.ensures.exact ∙ sym (get_or-area w d c.args.area c.args.i h))

pub returns-else-i-size : goal.returns-else-i-size
returns-else-i-size g c =
    let w = c.view-view.result.words.now in
    let d = dims c.view-view.result.shape in
    let h : size_of d c.args.area ≤ c.args.i = omega (arith, c.size.ensures) in
    viewed (λ w d. 0 ≡ slice_index (area_of w d c.args.area) c.args.i) c.view-view.ensures.words c.view-view.ensures.shape
    (sym (get_or-area_past w d c.args.area c.args.i h))
