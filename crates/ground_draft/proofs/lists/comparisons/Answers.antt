use Rattle.std.proofs.Common.{ap, ◌∙◌}
use Rattle.std.proofs.lemmas.Result.{err_from_is_err_and}
use Rattle.ground_draft.specs.inside.Lists.{with_comparison, leaf_ops, left_over}
use Rattle.ground_draft.proofs.Loops.{running-start, running-refused, running-next, running-done}
use Rattle.ground_draft.proofs.lists.comparisons.Goals as goal

pub loop-leaf-init : goal.loop-leaf-init
loop-leaf-init c = running-start _ _ _ _ _ c.new-cmps.ensures

pub returns-in_err-compared : goal.returns-in_err-compared
returns-in_err-compared c =
    let p = err_from_is_err_and c.from_residual.result c.from_residual.ensures.1 in
    rw (p.1, p.2) (running-refused with_comparison (λ cmps leaf. leaf_ops leaf) _ _ c.loop-leaf.cmps c.loop-leaf.leaf-index _ c.loop-leaf-test.true c.leaf-item.is c.loop-leaf.invariant _ c.in_err-compared.ensures)

pub loop-leaf-preserved : goal.loop-leaf-preserved
loop-leaf-preserved c =
    running-next with_comparison (λ cmps leaf. leaf_ops leaf) _ _ c.loop-leaf.cmps c.loop-leaf.leaf-index _ c.loop-leaf-test.true c.leaf-item.is c.loop-leaf.invariant _ c.in_ok-compared.ensures.0
    (c.in_ok-put_compared.ensures ∙ ap (left_over c.loop-leaf.cmps) c.in_ok-compared.ensures.1)

pub returns : goal.returns
returns c = running-done _ _ _ _ _ _ c.loop-leaf-test.false c.loop-leaf.invariant
