use Rattle.typing_linear.proofs.Changed.{none_changing, one_more_changing, all_changing}
use Rattle.typing_linear.proofs.linear.Changing.new.Goals as goal

pub loop-action-init : goal.loop-action-init
loop-action-init c = none_changing _ c.args.actions.now c.new-names.ensures

pub loop-action-preserved : goal.loop-action-preserved
loop-action-preserved c = one_more_changing _ _ _ _ _ _ c.loop-action.invariant c.loop-action-test.true c.action-item.is c.as_slice.ensures c.in_ok-add_all_changed.ensures

pub invariant_of-result : goal.invariant_of-result
invariant_of-result c = all_changing _ _ _ c.loop-action.invariant c.loop-action-test.false
