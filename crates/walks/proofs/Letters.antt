-- Where a word leads with one letter more.
use Rattle.std.proofs.Common.{◌≡◌, ℕ, suc, ◌+◌, ◌*◌, ◌<◌, min, List, [], ◌∷◌, length, get_or, take, sym, ap, ◌∙◌, arith}
use Rattle.std.proofs.lemmas.List.{length-take, take-take, take_all, take_more}
use Rattle.machines.specs.Words.{Word}
use Rattle.model.specs.Observations.{leads_to}
use Rattle.model.proofs.Hypotheses.{leads-append}

-- The next letter leads on from where the letters before lead.
pub leads_on : (k : ℕ) (s : List ℕ) (from row : ℕ) (w : Word) (i : ℕ) → i < length w → row ≡ leads_to k s from (take i w) → get_or s (suc (row * k + get_or w i 0)) 0 ≡ leads_to k s from (take (i + 1) w)
leads_on k s from row w i h e =
    ap (λ (z : ℕ). get_or s (suc (z * k + get_or w i 0)) 0) e
    ∙ sym (ap (leads_to k s from) (take_more w i 0 h) ∙ leads-append k s from (take i w) (get_or w i 0 ∷ []))

-- No more letters than there are.
pub all_letters : (w : Word) (n i : ℕ) → i ≡ min n (length w) → take i w ≡ take n w
all_letters w n i e = sym (take-take i n w (omega arith)) ∙ take_all i (take n w) (omega (arith, length-take n w))
