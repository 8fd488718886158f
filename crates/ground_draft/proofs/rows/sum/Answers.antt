use Rattle.std.proofs.Common.{◌∙◌, pos}
use Rattle.std.proofs.lemmas.Result.{err_from_is_err_and}
use Rattle.rational.specs.Fraction.{whole}
use Rattle.rational.proofs.FieldLaws.{quotient-itself}
use Rattle.ground_draft.specs.inside.Acts.{grow_by, grow_ops_by}
use Rattle.ground_draft.proofs.Loops.{running-start, running-first, running-next, running-done}
use Rattle.ground_draft.proofs.rows.sum.Goals as goal

pub loop-next-init : goal.loop-next-init
loop-next-init c = running-start _ _ _ _ _ (c.ratio-sum.ensures ∙ quotient-itself (whole (pos 0)))

pub returns-in_err-sum : goal.returns-in_err-sum
returns-in_err-sum c =
    let p = err_from_is_err_and c.from_residual.result c.from_residual.ensures.1 in
    rw (p.1, p.2) (running-first (grow_by c.args.func) (grow_ops_by c.args.func) _ _ c.loop-next.sum c.loop-next.next-index _ c.loop-next-test.true c.next-item.is c.loop-next.invariant _ c.in_err-sum.ensures)

pub loop-next-preserved : goal.loop-next-preserved
loop-next-preserved c =
    running-next (grow_by c.args.func) (grow_ops_by c.args.func) _ _ c.loop-next.sum c.loop-next.next-index _ c.loop-next-test.true c.next-item.is c.loop-next.invariant _ c.in_ok-sum.ensures.0 c.in_ok-sum.ensures.1

pub returns : goal.returns
returns c = running-done _ _ _ _ _ _ c.loop-next-test.false c.loop-next.invariant
