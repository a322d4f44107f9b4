-- The order of words, shorter ones first.
use Rattle.std.proofs.Common.{◌∙◌, inl, inr, arith}
use Rattle.machines.specs.Words.{Word, Less}
use Rattle.machines.proofs.Alphabet.{before_trans, before_irrefl}

pub less_trans : (u v w : Word) → Less u v → Less v w → Less u w
less_trans u v w (inl a) (inl b) = inl (omega (arith, a, b))
less_trans u v w (inl a) (inr b) = inl (omega (arith, a, b.0))
less_trans u v w (inr a) (inl b) = inl (omega (arith, a.0, b))
less_trans u v w (inr a) (inr b) = inr (a.0 ∙ b.0, before_trans u v w a.1 b.1)

pub less_irrefl : (u : Word) → Less u u → ⊥
less_irrefl u (inl a) = omega (arith, a)
less_irrefl u (inr a) = before_irrefl u a.1
