-- A table with rows of zeros behind it does what it did.
use Rattle.std.proofs.Common.{◌≡◌, ℕ, zero, suc, ◌+◌, ◌-◌, ◌*◌, ◌<◌, ◌≤◌, List, [], ◌∷◌, ◌++◌, get_or, replicate, refl, ap, ◌∙◌, subst, ⊎_elim, mul-le-mul_right, add-mul, add-sub_of_le, arith, length-append}
use lib.ListN.{length-replicate}
use Rattle.std.proofs.lemmas.List.{get_or_past}
use Rattle.std.proofs.lemmas.Bool.{cases_lt}
use Rattle.machines.specs.Words.{Word}
use Rattle.machines.specs.Tables.{Table, Sound, row_shows, next, walk, shows}
use Rattle.machines.specs.Theorems.{MoreStates}

-- Zeros behind a list change no number of it, read with 0 past the end.
pub get_or-zeros : (t : List ℕ) (n i : ℕ) → get_or (t ++ replicate n 0) i 0 ≡ get_or t i 0
get_or-zeros [] zero i = refl
get_or-zeros [] (suc n) zero = refl
get_or-zeros [] (suc n) (suc i) = get_or-zeros [] n i
get_or-zeros (x ∷ t) n zero = refl
get_or-zeros (x ∷ t) n (suc i) = get_or-zeros t n i

-- A table with d rows of zeros behind it.
abbrev pub padded : ℕ → ℕ → Table → Table
padded k d t = t ++ replicate (d * (k + 1)) 0

pub padded_walk : (k d : ℕ) (t : Table) (i : ℕ) (w : Word) → walk k (padded k d t) i w ≡ walk k t i w
padded_walk k d t i [] = refl
padded_walk k d t i (x ∷ w) =
    padded_walk k d t (next k (padded k d t) i x) w ∙ ap (λ (j : ℕ). walk k t j w) (get_or-zeros t (d * (k + 1)) (i * (k + 1) + (1 + x)))

pub padded_shows : (k d : ℕ) (t : Table) (w : Word) → shows k (padded k d t) w ≡ shows k t w
padded_shows k d t w = get_or-zeros t (d * (k + 1)) (walk k (padded k d t) 0 w * (k + 1)) ∙ ap (row_shows k t) (padded_walk k d t 0 w)

-- Each row of zeros leads to row 0.
pub padded_sound : {k m : ℕ} (d : ℕ) {t : Table} → Sound k m t → Sound k (m + d) (padded k d t)
padded_sound {k} {m} d {t} s =
    record {
      some_rows = omega (arith, s.some_rows);
      long = simp (length-append, length-replicate, add-mul) (ap (λ (l : ℕ). l + d * (k + 1)) s.long);
      inside = λ i x h below. rw (get_or-zeros t (d * (k + 1)) (i * (k + 1) + (1 + x))) (⊎_elim (ours i x below) (zeros i x) (cases_lt i m));
    }
  where
    ours : (i x : ℕ) → x < k → i < m → next k t i x < m + d
    ours i x below h = omega (arith, s.inside i x h below)

    zeros : (i x : ℕ) → m ≤ i → next k t i x < m + d
    zeros i x h = rw (get_or_past t (i * (k + 1) + (1 + x)) 0 (omega (arith, s.long, mul-le-mul_right {m = m} {n = i} (k + 1) h))) (omega (arith, s.some_rows))

pub more_states : MoreStates
more_states k m n b le states =
    let d = n - m in
    let t = states.0 in
    (padded k d t, subst (λ (r : ℕ). Sound k r (padded k d t)) (add-sub_of_le le) (padded_sound d states.1), λ w keys. padded_shows k d t w ∙ states.2 w keys)
