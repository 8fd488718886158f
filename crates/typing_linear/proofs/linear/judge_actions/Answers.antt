use Rattle.typing_linear.proofs.Noted.{none_noted, one_more_noted, all_noted}
use Rattle.typing_linear.proofs.linear.judge_actions.Goals as goal

pub loop-action-init : goal.loop-action-init
loop-action-init c = none_noted _ _ _

pub loop-action-preserved : goal.loop-action-preserved
loop-action-preserved c = one_more_noted _ _ _ _ _ _ _ c.loop-action.invariant c.loop-action-test.true c.action-item.is c.judge_action.ensures

pub returns : goal.returns
returns c = all_noted _ _ _ _ _ c.loop-action.invariant c.loop-action-test.false
