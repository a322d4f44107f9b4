-- A search by halves in words that are in order.
use Rattle.std.proofs.Common.{◌≡◌, ℕ, ◌+◌, ◌<◌, ◌≤◌, List, length, get_or, Ok, Err, Less, Equal, Greater, sym, subst, inl, inr, arith}
use Rattle.std.specs.Cmp.Lexicographic.{slice_cmp}
use Rattle.std.specs.Ordering.{nat_cmp}
use Rattle.std.proofs.lemmas.Bool.{cases_eq, cases_lt}
use Rattle.machines.specs.Words.{Word, Before}
use Rattle.machines.specs.Answers.{Told}
use Rattle.machines.proofs.Alphabet.{before_trans, before_irrefl, before_asym}
use Rattle.verdicts.specs.Orders.{word_at, Sorted, Placed, Sought}
use Rattle.verdicts.proofs.Compared.{less_before, equal_same, greater_after}

-- All places below low come before w, and all from high on come behind it.
pub record Between (answers : List Told) (order : List ℕ) (w : Word) (low high : ℕ) : Type 0 where
  pub order_of : low ≤ high
  pub fits : high ≤ length order
  pub below : (q : ℕ) → q < low → Before (word_at answers (get_or order q 0)) w
  pub above : (q : ℕ) → high ≤ q → q < length order → Before w (word_at answers (get_or order q 0))

pub between_all : (answers : List Told) (order : List ℕ) (w : Word) → Between answers order w 0 (length order)
between_all answers order w = record { order_of = omega arith; fits = omega arith; below = λ q h. absurd (omega (arith, h)); above = λ q h k. absurd (omega (arith, h, k)) }

module _ (answers : List Told) (order : List ℕ) (w : Word) (sorted : Sorted answers order) where
  module _ (low high middle : ℕ) (sofar : Between answers order w low high) (from_low : low ≤ middle) (to_high : middle < high) where
    pub upper_half : slice_cmp nat_cmp (word_at answers (get_or order middle 0)) w ≡ Less → Between answers order w (middle + 1) high
    upper_half e =
        let b = less_before (word_at answers (get_or order middle 0)) w e in
        record {
          order_of = omega arith;
          fits = sofar.fits;
          below = λ q h. elim (cases_eq q middle) [
            | inl e ↦ subst (λ z. Before (word_at answers (get_or order z 0)) w) (sym e) b
            | inr ne ↦ before_trans (word_at answers (get_or order q 0)) (word_at answers (get_or order middle 0)) w (sorted.rising q middle (omega (arith, h, ne)) (omega (arith, sofar.fits))) b
          ];
          above = sofar.above;
        }

    pub lower_half : slice_cmp nat_cmp (word_at answers (get_or order middle 0)) w ≡ Greater → Between answers order w low middle
    lower_half e =
        let b = greater_after (word_at answers (get_or order middle 0)) w e in
        record {
          order_of = from_low;
          fits = omega (arith, sofar.fits);
          below = sofar.below;
          above = λ q h k. elim (cases_eq q middle) [
            | inl e ↦ subst (λ z. Before w (word_at answers (get_or order z 0))) (sym e) b
            | inr ne ↦ before_trans w (word_at answers (get_or order middle 0)) (word_at answers (get_or order q 0)) b (sorted.rising middle q (omega (arith, h, ne)) k)
          ];
        }

    -- The word in the middle is found.
    pub found_there : slice_cmp nat_cmp (word_at answers (get_or order middle 0)) w ≡ Equal → Sought answers order w (Ok middle)
    found_there e =
        let same = equal_same (word_at answers (get_or order middle 0)) w e in
        let inside : middle < length order = omega (arith, to_high, sofar.fits) in
        let placed : Placed answers order w middle = record {
          fits = omega (arith, inside);
          below = λ q l. subst (Before (word_at answers (get_or order q 0))) same (sorted.rising q middle l inside);
          above = λ q l h b. elim (cases_eq middle q) [
            | inl e ↦ before_irrefl w (subst (λ z. Before z w) same (subst (λ (z : ℕ). Before (word_at answers (get_or order z 0)) w) (sym e) b))
            | inr ne ↦ before_asym w (word_at answers (get_or order q 0)) (subst (λ z. Before z (word_at answers (get_or order q 0))) same (sorted.rising middle q (omega (arith, l, ne)) h)) b
          ];
        } in
        (placed, (inside, same))

  -- Nothing is left between, so the word stands nowhere.
  pub between_none : (low high : ℕ) → high ≤ low → Between answers order w low high → Sought answers order w (Err low)
  between_none low high h sofar =
      let placed : Placed answers order w low = record {
        fits = omega (arith, sofar.fits, sofar.order_of);
        below = sofar.below;
        above = λ q k l b. before_asym w (word_at answers (get_or order q 0)) (sofar.above q (omega (arith, h, k)) l) b;
      } in (
        placed,
        λ q s. elim (cases_lt q low) [
          | inl l ↦ before_irrefl w (subst (λ z. Before z w) s.1 (sofar.below q l))
          | inr m ↦ before_irrefl w (subst (Before w) s.1 (sofar.above q (omega (arith, h, m)) s.0))
        ],
      )
