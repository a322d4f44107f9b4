-- What a write through a part of the memory that lies inside one area does to each area.
use Rattle.std.proofs.Common.{◌≡◌, ℕ, ◌+◌, ◌-◌, ◌<◌, ◌≤◌, min, List, [], ◌∷◌, ◌++◌, length, get_or, take, drop, replicate, sym, refl, ap, ◌∙◌, subst, ⊎_elim, arith}
use borrow.Rule.Slice.PartMut.{put_mid, same_len_mid}
use lib.Seq.{take-append-add}
use Rattle.std.proofs.lemmas.Bool.{cases_order}
use Rattle.std.proofs.lemmas.List.{append-nil, length-append, length-take-le, length-drop, length-replicate, take-take, drop-take, drop_all, drop-drop, drop-append-le, get_or-take, get_or-drop, get_or_append_left, get_or-replicate, ext_get_or}
use Rattle.std.proofs.lemmas.Slice.{take-put_mid_below, drop-put_mid, drop-append-drop}
use Rattle.areas.specs.declared.area.Area.{Area}
use Rattle.areas.specs.Layout.{Dims, place, base_of, size_of, area_of}
use Rattle.areas.specs.Frames.{Rewritten}
use Rattle.areas.specs.Bulk.{laid, Copied, zeros, Cleared, ClearedBefore}
use Rattle.areas.proofs.Bases.{same_place, ends_before, bases_rise}
use Rattle.areas.proofs.Inside.{area_short, area_reach, same_reach, get_or-area}
use Rattle.areas.proofs.Laid.{length-laid, laid_end}

take_behind : (xs ys : List ℕ) (a n : ℕ) → length xs ≡ a → take (a + n) (xs ++ ys) ≡ xs ++ take n ys
take_behind xs ys a n e = subst (λ (z : ℕ). take (z + n) (xs ++ ys) ≡ xs ++ take n ys) e (take-append-add xs ys n)

-- A part of a list, written to in its middle.
middle : (w ys : List ℕ) (m at k q : ℕ) → m + at ≤ length w → length ys ≡ k → take (at + (k + q)) (drop m (put_mid (m + at) k w ys)) ≡ put_mid at k (take (at + (k + q)) (drop m w)) ys
middle w ys m at k q h l =
    let long : length (take at (drop m w)) ≡ at = length-take-le at (drop m w) (omega (arith, length-drop m w)) in
    let front : drop m (put_mid (m + at) k w ys) ≡ take at (drop m w) ++ (ys ++ drop k (drop (m + at) w)) =
    drop-append-le m (take (m + at) w) (ys ++ drop k (drop (m + at) w)) (omega (arith, length-take-le (m + at) w h))
    ∙ ap (λ (z : List ℕ). z ++ (ys ++ drop k (drop (m + at) w))) (drop-take m at w) in
    let back : drop k (drop at (take (at + (k + q)) (drop m w))) ≡ take q (drop k (drop (m + at) w)) =
    ap (drop k) (drop-take at (k + q) (drop m w)) ∙ drop-take k q (drop at (drop m w)) ∙ ap (λ (z : List ℕ). take q (drop k z)) (drop-drop at m w) in
    ap (take (at + (k + q))) front
    ∙ take_behind (take at (drop m w)) (ys ++ drop k (drop (m + at) w)) at (k + q) long
    ∙ ap (λ (z : List ℕ). take at (drop m w) ++ z) (take_behind ys (drop k (drop (m + at) w)) k q l)
    ∙ ap (λ (z : List ℕ). take at (drop m w) ++ (ys ++ z)) (sym back)
    ∙ ap (λ (z : List ℕ). z ++ (ys ++ drop k (drop at (take (at + (k + q)) (drop m w))))) (sym (take-take at (at + (k + q)) (drop m w) (omega arith)))

-- A write to a part of an area is a write to the area's part.
pub area_put : (w ys : List ℕ) (d : Dims) (a : Area) (at k : ℕ) → at + k ≤ size_of d a → base_of d a + at ≤ length w → length ys ≡ k → area_of (put_mid (base_of d a + at) k w ys) d a ≡ put_mid at k (area_of w d a) ys
unfolding area_of
area_put w ys d a at k h l e =
    let n : at + (k + (size_of d a - (at + k))) ≡ size_of d a = omega arith in
    subst (λ (z : ℕ). take z (drop (base_of d a) (put_mid (base_of d a + at) k w ys)) ≡ put_mid at k (take z (drop (base_of d a) w)) ys) n
    (middle w ys (base_of d a) at k (size_of d a - (at + k)) l e)

part_put_before : (w ys : List ℕ) (m n s k : ℕ) → m + n ≤ s → s ≤ length w → take n (drop m (put_mid s k w ys)) ≡ take n (drop m w)
part_put_before w ys m n s k h l =
    sym (drop-take m n (put_mid s k w ys)) ∙ ap (drop m) (take-put_mid_below s k w ys (m + n) h l) ∙ drop-take m n w

-- A write to a part of an area leaves every other area.
pub area_put_other : (w ys : List ℕ) (d : Dims) (a b : Area) (at k : ℕ) → at + k ≤ size_of d a → base_of d a + at ≤ length w → length ys ≡ k → (b ≡ a → ⊥) → area_of (put_mid (base_of d a + at) k w ys) d b ≡ area_of w d b
unfolding area_of
area_put_other w ys d a b at k h l e ne =
    ⊎_elim (λ (q : place b ≡ place a). absurd (ne (same_place b a q)))
    (⊎_elim
    (λ (q : place b < place a). part_put_before w ys (base_of d b) (size_of d b) (base_of d a + at) k (omega (arith, ends_before d b a q)) l)
    (λ (q : place a < place b). ap (take (size_of d b)) (drop-put_mid (base_of d a + at) k w ys (base_of d b) (omega (arith, ends_before d a b q)) l e)))
    (cases_order (place b) (place a))

-- A write through a part of the memory inside an area.
pub put_inside : (w ys : List ℕ) (d : Dims) (a : Area) (at k : ℕ) → at + k ≤ size_of d a → base_of d a + (at + k) ≤ length w → length ys ≡ k → Rewritten w (put_mid (base_of d a + at) k w ys) d a (put_mid at k (area_of w d a) ys)
put_inside w ys d a at k h l e =
    let mid : length (take k (drop (base_of d a + at) w)) ≡ k = length-take-le k (drop (base_of d a + at) w) (omega (arith, length-drop (base_of d a + at) w)) in
    record {
      here = area_put w ys d a at k h (omega arith) e;
      others = λ b ne. area_put_other w ys d a b at k h (omega arith) e ne;
      long = same_len_mid (base_of d a + at) k w ys (e ∙ sym mid);
    }

-- The end of an area is a part of the memory.
area_end : (w : List ℕ) (d : Dims) (a : Area) (at k : ℕ) → at + k ≡ length (area_of w d a) → base_of d a + (at + k) ≤ length w → take k (drop (base_of d a + at) w) ≡ drop at (area_of w d a)
area_end w d a at k h l =
    let long : length (take k (drop (base_of d a + at) w)) ≡ k = length-take-le k (drop (base_of d a + at) w) (omega (arith, length-drop (base_of d a + at) w)) in
    ext_get_or 0 (take k (drop (base_of d a + at) w)) (drop at (area_of w d a)) (omega (arith, long, length-drop at (area_of w d a)))
    (λ i hi.
    let p : i < k = omega (arith, hi, long) in
    let q : at + i < size_of d a = omega (arith, p, h, area_short w d a) in
    get_or-take k (drop (base_of d a + at) w) i 0 p ∙ get_or-drop (base_of d a + at) w i 0
    ∙ ap (λ (z : ℕ). get_or w z 0) (omega arith)
    ∙ sym (get_or-area w d a (at + i) q) ∙ sym (get_or-drop at (area_of w d a) i 0))

-- A word's letters written through the end of an area.
pub copied_inside : (w ys : List ℕ) (d : Dims) (a : Area) (at k : ℕ) (word : List ℕ) → at + k ≡ length (area_of w d a) → base_of d a + (at + k) ≤ length w → ys ≡ laid (take k (drop (base_of d a + at) w)) 0 word → Copied w (put_mid (base_of d a + at) k w ys) d a at word
copied_inside w ys d a at k word h l e =
    let part : ys ≡ laid (drop at (area_of w d a)) 0 word = e ∙ ap (λ (z : List ℕ). laid z 0 word) (area_end w d a at k h l) in
    let long : length ys ≡ k = ap length part ∙ length-laid (drop at (area_of w d a)) 0 word ∙ length-drop at (area_of w d a) ∙ omega arith in
    let after : put_mid at k (area_of w d a) ys ≡ laid (area_of w d a) at word =
    ap (put_mid at k (area_of w d a)) part ∙ laid_end (area_of w d a) at k word h in
    subst (λ (z : List ℕ). Rewritten w (put_mid (base_of d a + at) k w ys) d a z) after
    (put_inside w ys d a at k (omega (arith, area_short w d a)) l long)

-- The same where the base was computed.
pub copied_at : (w ys : List ℕ) (d : Dims) (a : Area) (b at k : ℕ) (word : List ℕ) → b ≡ base_of d a → at + k ≡ length (area_of w d a) → b + (at + k) ≤ length w → ys ≡ laid (take k (drop (b + at) w)) 0 word → Copied w (put_mid (b + at) k w ys) d a at word
copied_at w ys d a b at k word p h l e =
    subst (λ (z : ℕ). z + (at + k) ≤ length w → ys ≡ laid (take k (drop (z + at) w)) 0 word → Copied w (put_mid (z + at) k w ys) d a at word) (sym p)
    (λ m q. copied_inside w ys d a at k word h m q) l e

-- An area without words holds zeros.
pub zeros_none : (xs : List ℕ) → length xs ≤ 0 → zeros xs ≡ xs
zeros_none [] h = refl
zeros_none (x ∷ xs) h = absurd (omega arith)

-- Zeros written through a whole area.
pub cleared_at : (w ys : List ℕ) (d : Dims) (a : Area) (b k : ℕ) → b ≡ base_of d a → k ≡ length (area_of w d a) → b + k ≤ length w → ys ≡ zeros (take k (drop b w)) → Cleared w (put_mid b k w ys) d a
cleared_at w ys d a b k p h l all =
    let e : ys ≡ replicate k 0 = all ∙ ap (λ (n : ℕ). replicate n 0) (length-take-le k (drop b w) (omega (arith, length-drop b w))) in
    let long : length ys ≡ k = ap length e ∙ length-replicate k 0 in
    let none : drop k (area_of w d a) ≡ [] = drop_all k (area_of w d a) (omega arith) in
    let after : put_mid 0 k (area_of w d a) ys ≡ zeros (area_of w d a) =
    ap (λ (z : List ℕ). ys ++ z) none ∙ append-nil ys ∙ e ∙ ap (λ (n : ℕ). replicate n 0) h in
    let from : base_of d a + 0 ≡ b = omega arith in
    subst (λ (s : ℕ). Rewritten w (put_mid s k w ys) d a (zeros (area_of w d a))) from
    (subst (λ (z : List ℕ). Rewritten w (put_mid (base_of d a + 0) k w ys) d a z) after
    (put_inside w ys d a 0 k (omega (arith, area_short w d a)) (omega arith) long))

-- Zeros written through the front of the memory, as far as it goes.
module _ (w ys : List ℕ) (d : Dims) (a : Area) (e : ℕ) (here : e ≡ min (length w) (base_of d a)) (zeroed : ys ≡ zeros (take e w)) where
  all : ys ≡ replicate e 0
  all = zeroed ∙ ap (λ (n : ℕ). replicate n 0) (length-take-le e w (omega arith))

  front_long : length (ys ++ drop e w) ≡ length w
  front_long = length-append ys (drop e w) ∙ omega (arith, ap length all ∙ length-replicate e 0, length-drop e w)

  front_zero : (j : ℕ) → j < length w → j < base_of d a → get_or (ys ++ drop e w) j 0 ≡ 0
  front_zero j h l =
      let n : length ys ≡ e = ap length all ∙ length-replicate e 0 in
      get_or_append_left ys (drop e w) 0 j (omega (arith, n)) ∙ ap (λ (z : List ℕ). get_or z j 0) all ∙ get_or-replicate e j 0 0 (omega arith)

  front_before : (b : Area) → place b < place a → area_of (ys ++ drop e w) d b ≡ zeros (area_of w d b)
  front_before b h =
      let n : length (area_of (ys ++ drop e w) d b) ≡ length (area_of w d b) = same_reach (ys ++ drop e w) w d b front_long in
      ext_get_or 0 (area_of (ys ++ drop e w) d b) (zeros (area_of w d b)) (n ∙ sym (length-replicate (length (area_of w d b)) 0))
      (λ i l.
      let s : i < size_of d b = omega (arith, l, area_short (ys ++ drop e w) d b) in
      let k : i < length (area_of w d b) = omega (arith, l, n) in
      get_or-area (ys ++ drop e w) d b i s
      ∙ front_zero (base_of d b + i) (omega (arith, k, area_reach w d b)) (omega (arith, s, ends_before d b a h))
      ∙ sym (get_or-replicate (length (area_of w d b)) i 0 0 k))

  front_others : (b : Area) → place a ≤ place b → area_of (ys ++ drop e w) d b ≡ area_of w d b
  unfolding area_of
  front_others b h =
      let n : length ys ≡ e = ap length all ∙ length-replicate e 0 in
      ap (take (size_of d b)) (drop-append-drop e w ys (base_of d b) (omega (arith, bases_rise d a b h)) n)

  -- The areas before one hold zeros.
  pub cleared_front : ClearedBefore w (ys ++ drop e w) d a
  cleared_front = record { before = front_before; others = front_others; long = front_long }
