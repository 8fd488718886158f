use Rattle.std.proofs.Common.{refl}
use Rattle.std.proofs.lemmas.Result.{err_from_is_err_and}
use Rattle.pattern.specs.Rolled.{function_growth, function_ops}
use Rattle.pattern.proofs.Turns.{item, turns-start, turns-passes, turns-next, turns-done}
use Rattle.pattern.proofs.rolling.last_value.Goals as goal

pub loop-inc-init : goal.loop-inc-init
loop-inc-init c = turns-start (function_ops c.args.count.now c.args.func) (function_growth c.args.count.now c.args.func) c.args.old.now c.args.incs.now _ refl

pub returns-in_err-value : goal.returns-in_err-value
returns-in_err-value c =
    let p = err_from_is_err_and c.from_residual.result c.from_residual.ensures.1 in
    rw (p.1, p.2)
    (turns-passes (function_ops c.args.count.now c.args.func) (function_growth c.args.count.now c.args.func) c.args.old.now c.args.incs.now _ _ _
    (item c.args.incs.now _ _ c.loop-inc-test.true c.inc-item.is) c.loop-inc.invariant _ c.in_err-value.ensures)

pub loop-inc-preserved : goal.loop-inc-preserved
loop-inc-preserved c =
    turns-next (function_ops c.args.count.now c.args.func) (function_growth c.args.count.now c.args.func) c.args.old.now c.args.incs.now _ _ _
    (item c.args.incs.now _ _ c.loop-inc-test.true c.inc-item.is) c.loop-inc.invariant _ c.in_ok-value.ensures.0 c.in_ok-value.ensures.1

pub returns : goal.returns
returns c =
    turns-done (function_ops c.args.count.now c.args.func) (function_growth c.args.count.now c.args.func) c.args.old.now c.args.incs.now _ _ c.loop-inc-test.false c.loop-inc.invariant
