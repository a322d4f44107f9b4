-- What an area holds, and what a write inside one area does to each.
use Rattle.std.proofs.Common.{◌≡◌, ℕ, ◌+◌, ◌-◌, ◌/◌, ◌%◌, ◌<◌, ◌≤◌, min, List, length, get_or, take, drop, set, sym, refl, ap, ◌∙◌, subst, ⊎_elim, arith}
use lib.Seq.{take-set-lt}
use Rattle.std.proofs.lemmas.Bool.{cases_order}
use Rattle.std.proofs.lemmas.List.{length-take, length-drop, length-set, get_or-take, get_or-drop, get_or_past, set_past, take-set-le, drop-set-lt, drop-set-add, drop-take}
use Rattle.areas.specs.declared.area.Area.{Area}
use Rattle.areas.specs.Words.{set_wide}
use Rattle.areas.specs.Layout.{Dims, place, base_of, size_of, area_of, Limits}
use Rattle.areas.specs.Frames.{Rewritten, Saved, SavedWide}
use Rattle.areas.proofs.Bases.{same_place, ends_before, ends_within}
use Rattle.areas.proofs.Pairs.{set_wide_past}

-- An area of a memory of the right length has its size.
pub length-area : (w : List ℕ) (d : Dims) (a : Area) → Limits d → length w ≡ d.length → length (area_of w d a) ≡ size_of d a
unfolding area_of
length-area w d a l e = simp (length-take, length-drop) (omega (arith, ends_within d a l))

-- An area has its size or as many words as the memory has from its base on.
pub area_reach : (w : List ℕ) (d : Dims) (a : Area) → length (area_of w d a) ≡ min (size_of d a) (length w - base_of d a)
unfolding area_of
area_reach w d a = simp (length-take, length-drop)

-- Memories of one length have areas of one length.
pub same_reach : (w w' : List ℕ) (d : Dims) (a : Area) → length w ≡ length w' → length (area_of w d a) ≡ length (area_of w' d a)
same_reach w w' d a e = area_reach w d a ∙ ap (λ (n : ℕ). min (size_of d a) (n - base_of d a)) e ∙ sym (area_reach w' d a)

-- The words of an area lie within the memory.
pub area_within : (w : List ℕ) (d : Dims) (a : Area) (b r : ℕ) → b ≡ base_of d a → r ≡ length (area_of w d a) → 0 < r → b + r ≤ length w
area_within w d a b r p q h = omega (arith, area_reach w d a)

-- An area never has more words than its size.
pub area_short : (w : List ℕ) (d : Dims) (a : Area) → length (area_of w d a) ≤ size_of d a
unfolding area_of
area_short w d a = simp length-take (omega arith)

-- A word of an area is a word of the memory.
pub get_or-area : (w : List ℕ) (d : Dims) (a : Area) (i : ℕ) → i < size_of d a → get_or (area_of w d a) i 0 ≡ get_or w (base_of d a + i) 0
unfolding area_of
get_or-area w d a i h = get_or-take (size_of d a) (drop (base_of d a) w) i 0 h ∙ get_or-drop (base_of d a) w i 0

-- Past the area's end there is 0.
pub get_or-area_past : (w : List ℕ) (d : Dims) (a : Area) (i : ℕ) → size_of d a ≤ i → get_or (area_of w d a) i 0 ≡ 0
get_or-area_past w d a i h = get_or_past (area_of w d a) i 0 (omega (arith, area_short w d a))

-- A word that is written inside an area is written to that area.
pub area_set : (w : List ℕ) (d : Dims) (a : Area) (i v : ℕ) → i < size_of d a → area_of (set w (base_of d a + i) v) d a ≡ set (area_of w d a) i v
unfolding area_of
area_set w d a i v h =
    ap (take (size_of d a)) (drop-set-add (base_of d a) w i v) ∙ take-set-lt (size_of d a) (drop (base_of d a) w) i v h

-- A part of a list before or behind a written word stays.
part_set_before : (w : List ℕ) (m n j v : ℕ) → m + n ≤ j → take n (drop m (set w j v)) ≡ take n (drop m w)
part_set_before w m n j v h =
    sym (drop-take m n (set w j v)) ∙ ap (drop m) (take-set-le (m + n) w j v h) ∙ drop-take m n w

part_set_behind : (w : List ℕ) (m n j v : ℕ) → j < m → take n (drop m (set w j v)) ≡ take n (drop m w)
part_set_behind w m n j v h = ap (take n) (drop-set-lt m w j v h)

-- A word that is written inside an area leaves every other area.
pub area_set_other : (w : List ℕ) (d : Dims) (a b : Area) (i v : ℕ) → i < size_of d a → (b ≡ a → ⊥) → area_of (set w (base_of d a + i) v) d b ≡ area_of w d b
unfolding area_of
area_set_other w d a b i v h ne =
    ⊎_elim (λ (e : place b ≡ place a). absurd (ne (same_place b a e)))
    (⊎_elim
    (λ (l : place b < place a). part_set_before w (base_of d b) (size_of d b) (base_of d a + i) v (omega (arith, ends_before d b a l)))
    (λ (l : place a < place b). part_set_behind w (base_of d b) (size_of d b) (base_of d a + i) v (omega (arith, ends_before d a b l))))
    (cases_order (place b) (place a))

-- Nothing is written.
pub rewritten_same : (w : List ℕ) (d : Dims) (a : Area) (after : List ℕ) → after ≡ area_of w d a → Rewritten w w d a after
rewritten_same w d a after e = record { here = sym e; others = λ b ne. refl; long = refl }

-- The word that was written inside an area.
pub saved_inside : (w : List ℕ) (d : Dims) (a : Area) (i v : ℕ) → i < size_of d a → Saved w (set w (base_of d a + i) v) d a i v
saved_inside w d a i v h = record {
  here = area_set w d a i v h;
  others = λ b ne. area_set_other w d a b i v h ne;
  long = length-set w (base_of d a + i) v;
}

-- A word past an area's end is not written.
pub saved_past : (w : List ℕ) (d : Dims) (a : Area) (i v : ℕ) → size_of d a ≤ i → Saved w w d a i v
saved_past w d a i v h = rewritten_same w d a (set (area_of w d a) i v) (set_past (area_of w d a) i v (omega (arith, area_short w d a)))

-- A number past an area's end is not written.
pub saved_wide_past : (w : List ℕ) (d : Dims) (a : Area) (i v : ℕ) → size_of d a ≤ i → SavedWide w w d a i v
saved_wide_past w d a i v h = rewritten_same w d a (set_wide (area_of w d a) i v) (set_wide_past (area_of w d a) i v (omega (arith, area_short w d a)))

-- The same where the place was computed.
pub saved_at : (w w' : List ℕ) (d : Dims) (a : Area) (b i v : ℕ) → i < size_of d a → b ≡ base_of d a → w' ≡ set w (b + i) v → Saved w w' d a i v
saved_at w w' d a b i v h p q =
    let e : w' ≡ set w (base_of d a + i) v = q ∙ ap (λ (z : ℕ). set w (z + i) v) p in
    subst (λ (z : List ℕ). Saved w z d a i v) (sym e) (saved_inside w d a i v h)

-- One write after another to the same area.
pub rewritten_twice : (w w' w'' : List ℕ) (d : Dims) (a : Area) (F : List ℕ → List ℕ) (xs : List ℕ) → Rewritten w w' d a xs → Rewritten w' w'' d a (F (area_of w' d a)) → Rewritten w w'' d a (F xs)
rewritten_twice w w' w'' d a F xs p q = record {
  here = q.here ∙ ap F p.here;
  others = λ b ne. q.others b ne ∙ p.others b ne;
  long = q.long ∙ p.long;
}

-- Two words beside each other hold a number.
pub saved_both : (w w' w'' : List ℕ) (d : Dims) (a : Area) (i v x y : ℕ) → x ≡ v % 4294967296 → y ≡ v / 4294967296 → Saved w w' d a i x → Saved w' w'' d a (i + 1) y → SavedWide w w'' d a i v
unfolding set_wide
saved_both w w' w'' d a i v x y p q s t =
    let after : List ℕ = set (area_of w d a) i x in
    let e : set after (i + 1) y ≡ set (set (area_of w d a) i (v % 4294967296)) (i + 1) (v / 4294967296) = cc in
    subst (λ (z : List ℕ). Rewritten w w'' d a z) e (rewritten_twice w w' w'' d a (λ z. set z (i + 1) y) after s t)
