-- Words no later than others, and words with keys behind them.
use Rattle.std.proofs.Common.{ℕ, ◌<◌, [], ◌∷◌, ◌++◌, sym, ap, ◌∙◌, subst, inl, inr, append-nil, arith, length-append}
use Rattle.std.proofs.lemmas.List.{length_push}
use Rattle.machines.specs.Words.{Word, Less}
use Rattle.machines.proofs.Alphabet.{before_behind, before_longer}
use Rattle.machines.proofs.Shortlex.{less_trans}
use Rattle.differences.specs.Searches.{NoLater}

pub no_later_less : (u v w : Word) → NoLater u v → Less v w → Less u w
no_later_less u v w (inl e) h = subst (λ z. Less z w) (sym e) h
no_later_less u v w (inr l) h = less_trans u v w l h

pub no_later_trans : (u v w : Word) → NoLater u v → NoLater v w → NoLater u w
no_later_trans u v w h (inl e) = subst (NoLater u) e h
no_later_trans u v w h (inr l) = inr (no_later_less u v w h l)

-- Words in order stay so with any key behind each.
pub less_push : (u v : Word) (x y : ℕ) → Less u v → Less (u ++ (x ∷ [])) (v ++ (y ∷ []))
less_push u v x y (inl h) = inl (omega (arith, length_push u x, length_push v y))
less_push u v x y (inr h) = inr (omega (arith, h.0, length_push u x, length_push v y), before_longer u v (x ∷ []) (y ∷ []) h.1 (inl (omega (arith, h.0))))

-- A word with a smaller key behind it comes first.
pub less_key : (u : Word) (x y : ℕ) → x < y → Less (u ++ (x ∷ [])) (u ++ (y ∷ []))
less_key u x y h = inr (length_push u x ∙ sym (length_push u y), before_behind u (x ∷ []) (y ∷ []) (inl h))

pub no_later_push : (u v : Word) (y : ℕ) → NoLater u v → NoLater (u ++ (y ∷ [])) (v ++ (y ∷ []))
no_later_push u v y (inl e) = inl (ap (λ (z : Word). z ++ (y ∷ [])) e)
no_later_push u v y (inr l) = inr (less_push u v y y l)

-- A front of a word comes before all that the word comes before.
pub front_less : (u t w : Word) → Less (u ++ t) w → Less u w
front_less u [] w h = subst (λ z. Less z w) (append-nil u) h
front_less u (y ∷ t) w (inl h) = inl (omega (arith, length-append u (y ∷ t)))
front_less u (y ∷ t) w (inr h) = inl (omega (arith, h.0, length-append u (y ∷ t)))
