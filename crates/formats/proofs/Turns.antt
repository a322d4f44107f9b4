-- What a reader of tokens makes of the numbers that they begin with.
use Rattle.std.proofs.Common.{◌≡◌, ℕ, List, [], ◌∷◌, ◌++◌, map, append-nil, append_assoc, refl, ap, ◌∙◌}
use Rattle.formats.specs.declared.scan.Token.{Token}
use Rattle.formats.specs.declared.scan.Token.TheVariants.{Number, Colon, At}
use Rattle.formats.specs.Lines.{answer_on, word_on, row_on}
use Rattle.formats.specs.Numbers.{BeginsWithNoNumber, IsNumbersThen}

-- A reader F that keeps each number keeps all of them.
kept : {Y : Type 0} (F : List ℕ → List Token → Y) → ((w : List ℕ) (k : ℕ) (ts : List Token) → F w (Number k ∷ ts) ≡ F (w ++ k ∷ []) ts) → (w ns : List ℕ) (ts : List Token) → F w (map Number ns ++ ts) ≡ F (w ++ ns) ts
kept F one w [] ts = rw append-nil
kept F one w (n ∷ ns) ts = one w n (map Number ns ++ ts) ∙ kept F one (w ++ n ∷ []) ns ts ∙ rw append_assoc

module _ (ts : List Token) (ns : List ℕ) (rest : List Token) (cut : IsNumbersThen ts ns rest) where
  pub answer_after : answer_on [] ts ≡ answer_on ns rest
  answer_after = ap (answer_on []) cut.whole ∙ kept answer_on (λ w k us. refl) [] ns rest

  pub word_after : word_on [] ts ≡ word_on ns rest
  word_after = ap (word_on []) cut.whole ∙ kept word_on (λ w k us. refl) [] ns rest

  pub row_after : row_on [] ts ≡ row_on ns rest
  row_after = ap (row_on []) cut.whole ∙ kept row_on (λ w k us. refl) [] ns rest

-- A mark that is not one is the other.
pub is_at : (t : Token) (us : List Token) → BeginsWithNoNumber (t ∷ us) → (t ≡ Colon → ⊥) → t ≡ At
is_at (Number n) us none other = absurd none
is_at Colon us none other = absurd (other refl)
is_at At us none other = refl

pub is_colon : (t : Token) (us : List Token) → BeginsWithNoNumber (t ∷ us) → (t ≡ At → ⊥) → t ≡ Colon
is_colon (Number n) us none other = absurd none
is_colon Colon us none other = refl
is_colon At us none other = absurd (other refl)
