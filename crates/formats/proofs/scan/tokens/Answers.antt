use Rattle.std.proofs.Common.{sym, ◌∙◌, inl, inr, ⊎_elim}
use Rattle.std.proofs.lemmas.Result.{err_from_is_err_and}
use Rattle.formats.proofs.Bytes.{at_fault, at_byte}
use Rattle.formats.proofs.scan.tokens.Goals as goal

pub returns-in_err-read : goal.returns-in_err-read
returns-in_err-read c =
    let p = err_from_is_err_and c.from_residual.result c.from_residual.ensures.1 in
    rw (p.1, p.2)
    (⊎_elim inl (λ e. inr (sym c.loop-i.invariant ∙ at_fault _ _ _ _ c.loop-i-test.true c.if-b-eq35.false _ e)) c.in_err-read.ensures)

pub loop-i-preserved : goal.loop-i-preserved
loop-i-preserved c =
    sym (at_byte _ _ _ _ c.loop-i-test.true c.if-b-eq35.false _ c.in_ok-read.ensures) ∙ c.loop-i.invariant
