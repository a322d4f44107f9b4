use Rattle.std.proofs.Common.{◌≡◌, ◌+◌, ◌-◌, ◌/◌, ◌++◌, Ordering, sym, ap, ◌∙◌, arith}
use Rattle.std.specs.Cmp.Lexicographic.{slice_cmp}
use Rattle.std.specs.Ordering.{nat_cmp}
use Rattle.machines.specs.Words.{Word}
use Rattle.answers.specs.Logs.{told}
use Rattle.verdicts.proofs.Halves.{upper_half, lower_half, found_there, between_none}
use Rattle.verdicts.proofs.order.search.Goals as goal

-- What was found of the word that was read.
found : (v t w : Word) (o : Ordering) → v ≡ t → o ≡ slice_cmp nat_cmp v w → slice_cmp nat_cmp t w ≡ o
found v t w o e h = ap (λ (z : Word). slice_cmp nat_cmp z w) (sym e) ∙ sym h

pub loop-low-preserved-in-Less : goal.loop-low-preserved-in-Less
loop-low-preserved-in-Less c =
    upper_half (told c.args.answers.now) c.args.order.now (c.args.u.now ++ c.args.x.now) c.requires c.loop-low.low c.loop-low.high _ c.loop-low.invariant (omega arith) (omega arith)
    (found _ _ _ _ c.word_of.ensures c.in-Less.ensures)

pub returns-in-Equal : goal.returns-in-Equal
returns-in-Equal c =
    found_there (told c.args.answers.now) c.args.order.now (c.args.u.now ++ c.args.x.now) c.requires c.loop-low.low c.loop-low.high (c.loop-low.low + (c.loop-low.high - c.loop-low.low) / 2) c.loop-low.invariant (omega arith) (omega arith)
    (found _ _ _ _ c.word_of.ensures c.in-Equal.ensures)

pub loop-low-preserved : goal.loop-low-preserved
loop-low-preserved c =
    lower_half (told c.args.answers.now) c.args.order.now (c.args.u.now ++ c.args.x.now) c.requires c.loop-low.low c.loop-low.high _ c.loop-low.invariant (omega arith) (omega arith)
    (found _ _ _ _ c.word_of.ensures c.in-Greater.ensures)

pub returns : goal.returns
returns c = between_none (told c.args.answers.now) c.args.order.now (c.args.u.now ++ c.args.x.now) c.requires c.loop-low.low c.loop-low.high (omega arith) c.loop-low.invariant
