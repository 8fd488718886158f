use Rattle.std.proofs.Common.{◌∙◌}
use Rattle.std.proofs.lemmas.Result.{err_from_is_err_and}
use Rattle.lin.proofs.Multiples.{scaling-start, scaling-next, scaling-passes, scaling-done}
use Rattle.lin.proofs.multiple.multiples.Goals as goal

pub returns-in_err-product : goal.returns-in_err-product
returns-in_err-product c =
    let p = err_from_is_err_and c.from_residual-in_err-product.result c.from_residual-in_err-product.ensures.1 in
    rw (p.1, p.2)
    (scaling-passes _ _ _ _ _ (record { within = c.loop-term-test.true; is = c.term-item.is }) c.loop-term.invariant _ c.in_err-product.ensures.0 c.in_err-product.ensures.1)

pub loop-term-init : goal.loop-term-init
loop-term-init c = scaling-start _ _ _ c.in_ok-out.ensures.items

pub loop-term-preserved : goal.loop-term-preserved
loop-term-preserved c =
    scaling-next _ _ _ _ _ (record { within = c.loop-term-test.true; is = c.term-item.is }) c.loop-term.invariant _ _ c.in_ok-product.ensures.0 c.in_ok-product.ensures.1
    c.in_ok-push_unless_zero.ensures

pub returns : goal.returns
returns c =
    let d = scaling-done _ _ _ _ c.requires c.loop-term-test.false c.loop-term.invariant in (d.0, c.from_vec.ensures ∙ d.1)
