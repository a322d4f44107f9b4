use Rattle.std.proofs.Common.{◌∷◌, ◌++◌, arith, ap, sym, ◌∙◌, refl, decimal, flat_map}
use Rattle.std.proofs.lemmas.List.{take_all}
use Rattle.std.proofs.Output.{has_written_append, has_written_of_eq}
use Rattle.formats.proofs.Texts.{blanks_before}
use Rattle.formats.specs.Words.{numbers_text}
use Rattle.formats.proofs.words.NumbersDisplay.fmt.Goals as goal

pub returns-clause-writes : goal.returns-clause-writes
returns-clause-writes g c = λ plain done.
    let first = c.in_ok-write.ensures.writes plain refl in
    let all = take_all c.loop-number.number-index c.in-Some.rest.now (omega arith) in
    has_written_of_eq _ _ _ _ _
    (ap (λ ns. decimal c.in-Some.first.now ++ flat_map (λ m. 32 ∷ decimal m) ns) all
    ∙ blanks_before _ _ ∙ ap numbers_text (sym c.in-Some.ensures.cases.0))
    (has_written_append _ _ _ _ _ _ first (c.loop-number.invariant first.plain))
