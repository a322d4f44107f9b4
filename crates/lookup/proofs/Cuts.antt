-- Parts of the memory that are parts of an area.
use Rattle.std.proofs.Common.{◌≡◌, ℕ, ◌+◌, ◌-◌, ◌<◌, ◌≤◌, min, List, [], length, get_or, take, drop, sym, ap, ◌∙◌, arith}
use Rattle.std.proofs.lemmas.List.{length-take, length-take-le, length-drop, drop_all, take_all, get_or-take, get_or-drop, ext_get_or}
use Rattle.areas.specs.declared.area.Area.{Area}
use Rattle.areas.specs.Layout.{Dims, base_of, area_of}
use Rattle.areas.proofs.Inside.{area_short, get_or-area}
use Rattle.lookup.specs.Named.{part_of}

-- Behind the end of an area nothing is left.
pub part_past : (w : List ℕ) (d : Dims) (a : Area) (from size : ℕ) → length (area_of w d a) ≤ from → [] ≡ part_of w d a from size
part_past w d a from size h = sym (ap (take size) (drop_all from (area_of w d a) h) ∙ take_all size [] (omega arith))

-- A part of the memory inside an area is the area's part.
pub part_inside : (w : List ℕ) (d : Dims) (a : Area) (b from size n : ℕ) → b ≡ base_of d a → n ≡ min size (length (area_of w d a) - from) → from < length (area_of w d a) → b + length (area_of w d a) ≤ length w → take n (drop (b + from) w) ≡ part_of w d a from size
part_inside w d a b from size n e m h l =
    let left : length (take n (drop (b + from) w)) ≡ n = length-take-le n (drop (b + from) w) (omega (arith, length-drop (b + from) w)) in
    let right : length (part_of w d a from size) ≡ n = length-take size (drop from (area_of w d a)) ∙ omega (arith, length-drop from (area_of w d a)) in
    ext_get_or 0 (take n (drop (b + from) w)) (part_of w d a from size) (left ∙ sym right)
    (λ i hi.
    let p : i < n = omega (arith, hi, left) in
    get_or-take n (drop (b + from) w) i 0 p ∙ get_or-drop (b + from) w i 0
    ∙ ap (λ (z : ℕ). get_or w z 0) (omega arith)
    ∙ sym (get_or-area w d a (from + i) (omega (arith, p, area_short w d a)))
    ∙ sym (get_or-drop from (area_of w d a) i 0)
    ∙ sym (get_or-take size (drop from (area_of w d a)) i 0 (omega (arith, p))))
