use Rattle.std.proofs.Common.{◌∙◌}
use Rattle.std.proofs.lemmas.Result.{err_from_is_err_and}
use Rattle.lin.proofs.Quotients.{dividing-start, dividing-next, dividing-passes, dividing-done}
use Rattle.lin.proofs.quotient.quotients.Goals as goal

pub returns-in_err-quotient : goal.returns-in_err-quotient
returns-in_err-quotient c =
    let p = err_from_is_err_and c.from_residual-in_err-quotient.result c.from_residual-in_err-quotient.ensures.1 in
    rw (p.1, p.2)
    (dividing-passes _ _ _ _ _ (record { within = c.loop-term-test.true; is = c.term-item.is }) c.loop-term.invariant _ c.in_err-quotient.ensures.0 c.in_err-quotient.ensures.1)

pub loop-term-init : goal.loop-term-init
loop-term-init c = dividing-start _ _ _ c.in_ok-out.ensures.items

pub loop-term-preserved : goal.loop-term-preserved
loop-term-preserved c =
    dividing-next _ _ _ _ _ (record { within = c.loop-term-test.true; is = c.term-item.is }) c.loop-term.invariant _ _ c.in_ok-quotient.ensures.0 c.in_ok-quotient.ensures.1
    c.in_ok-push_unless_zero.ensures

pub returns : goal.returns
returns c =
    let d = dividing-done _ _ _ _ c.requires.normal c.loop-term-test.false c.loop-term.invariant in (d.0, c.from_vec.ensures ∙ d.1)
