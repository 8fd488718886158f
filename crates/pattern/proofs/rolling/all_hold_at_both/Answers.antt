use Rattle.std.proofs.Common.{rules, true, ◌≡◌}
use Rattle.std.proofs.lemmas.Result.{err_from_is_err_and}
use Rattle.lin.specs.Linear.{point_of}
use Rattle.pattern.specs.Rolled.{HoldsAtBoth, comparison_ops}
use Rattle.pattern.proofs.Turns.{item}
use Rattle.pattern.proofs.Testing.{testing-passes, testing-next, tests-true}
use Rattle.pattern.proofs.rolling.all_hold_at_both.Goals as goal

pub returns-in_err-holds_at_both : goal.returns-in_err-holds_at_both
returns-in_err-holds_at_both c =
    let p = err_from_is_err_and c.from_residual.result c.from_residual.ensures.1 in
    rw (p.1, p.2)
    (testing-passes (comparison_ops c.args.incs.now c.args.count.now (point_of c.args.values.now)) (HoldsAtBoth c.args.incs.now c.args.count.now (point_of c.args.values.now)) c.args.comparisons.now _ _
    (item _ _ _ c.loop-comparison-test.true c.comparison-item.is) c.loop-comparison.invariant _ c.in_err-holds_at_both.ensures)

pub loop-comparison-preserved : goal.loop-comparison-preserved
loop-comparison-preserved c =
    let yes : c.in_ok-holds_at_both.field-0 ≡ true = search rules in
    testing-next (comparison_ops c.args.incs.now c.args.count.now (point_of c.args.values.now)) (HoldsAtBoth c.args.incs.now c.args.count.now (point_of c.args.values.now)) c.args.comparisons.now _ _
    (item _ _ _ c.loop-comparison-test.true c.comparison-item.is) c.loop-comparison.invariant (tests-true _ _ c.in_ok-holds_at_both.field-0 c.in_ok-holds_at_both.ensures yes)
