-- Reading and writing a number of two words in a list.
use Rattle.std.proofs.Common.{◌≡◌, ℕ, ◌+◌, ◌/◌, ◌%◌, ◌<◌, ◌≤◌, ◌≢◌, List, length, get_or, set, sym, ◌∙◌, arith}
use Rattle.std.proofs.lemmas.Nat.{div-add-mod'}
use Rattle.std.proofs.lemmas.List.{get_or_past, set_past, length-set, get_or-set_same, get_or-set_other}
use Rattle.areas.specs.Words.{wide, set_wide}

-- Past the end there is 0.
pub wide_past : (w : List ℕ) (i : ℕ) → length w ≤ i → wide w i ≡ 0
unfolding wide
wide_past w i h = omega (arith, get_or_past w i 0 h, get_or_past w (i + 1) 0 (omega arith))

-- Past the end nothing is written.
pub set_wide_past : (w : List ℕ) (i v : ℕ) → length w ≤ i → set_wide w i v ≡ w
unfolding set_wide
set_wide_past w i v h =
    set_past (set w i (v % 4294967296)) (i + 1) (v / 4294967296) (simp length-set (omega arith)) ∙ set_past w i (v % 4294967296) h

-- A write changes no length.
pub length-set_wide : (w : List ℕ) (i v : ℕ) → length (set_wide w i v) ≡ length w
unfolding set_wide
length-set_wide w i v = simp length-set

-- A word beside the two that are written stays.
pub get_or-set_wide : (w : List ℕ) (i j v : ℕ) → j ≢ i → j ≢ i + 1 → get_or (set_wide w i v) j 0 ≡ get_or w j 0
unfolding set_wide
get_or-set_wide w i j v p q =
    get_or-set_other (set w i (v % 4294967296)) (i + 1) j (v / 4294967296) 0 q ∙ get_or-set_other w i j (v % 4294967296) 0 p

-- A number that was written within the list is read back.
pub wide_set_wide : (w : List ℕ) (i v : ℕ) → i + 1 < length w → wide (set_wide w i v) i ≡ v
unfolding wide set_wide
wide_set_wide w i v h =
    let lows = set w i (v % 4294967296) in
    let low : get_or (set lows (i + 1) (v / 4294967296)) i 0 ≡ v % 4294967296 =
    get_or-set_other lows (i + 1) i (v / 4294967296) 0 (omega arith) ∙ get_or-set_same w i (v % 4294967296) 0 (omega arith) in
    let high : get_or (set lows (i + 1) (v / 4294967296)) (i + 1) 0 ≡ v / 4294967296 =
    get_or-set_same lows (i + 1) (v / 4294967296) 0 (simp length-set h) in
    omega (arith, low, high, div-add-mod' v 4294967296)

-- A number stays where a word beside it is written.
pub wide_set : (w : List ℕ) (i j v : ℕ) → j ≢ i → j ≢ i + 1 → wide (set w j v) i ≡ wide w i
unfolding wide
wide_set w i j v p q =
    omega (arith, get_or-set_other w j i v 0 (λ e. p (sym e)), get_or-set_other w j (i + 1) v 0 (λ e. q (sym e)))

-- A number stays where another beside it is written.
pub wide_set_wide_other : (w : List ℕ) (i j v : ℕ) → i ≢ j → i ≢ j + 1 → i + 1 ≢ j → wide (set_wide w j v) i ≡ wide w i
unfolding wide
wide_set_wide_other w i j v p q r =
    omega (arith, get_or-set_wide w j i v p q, get_or-set_wide w j (i + 1) v r (omega arith))
