use Rattle.std.proofs.Common.{rules, ◌≡◌, vec_items}
use Rattle.std.proofs.lemmas.Iterator.{YieldsList-from_slice, IsFirst-from_position}
use Rattle.std.proofs.lemmas.Slice.Eq.{slice_eq-Decides}
use Rattle.std.proofs.lemmas.Bool.Decides.{Decides-eqb}
use Rattle.answers.specs.declared.log.Answer.{Answer}
use Rattle.verdicts.proofs.Slices.{first_of_words}
use Rattle.verdicts.proofs.words.first_answer.Goals as goal

pub returns : goal.returns
returns c =
    first_of_words c.args.answers.now c.args.word.now c.position.result
    (IsFirst-from_position _ _ _ (λ (a : Answer). vec_items a.word ≡ c.args.word.now) (λ (a : Answer). vec_items a.word ≡ c.args.word.now → ⊥)
    c.position.ensures.ran (YieldsList-from_slice c.args.answers.now cc) (λ x q k. search (rules, slice_eq-Decides Decides-eqb)) (λ x q k. search rules))
