use Rattle.typing_linear.proofs.Noted.{none_noted, one_more_noted, all_noted}
use Rattle.typing_types.proofs.types.judge_conditions.Goals as goal

pub loop-condition-init : goal.loop-condition-init
loop-condition-init c = none_noted _ _ _

pub loop-condition-preserved : goal.loop-condition-preserved
loop-condition-preserved c = one_more_noted _ _ _ _ _ _ _ c.loop-condition.invariant c.loop-condition-test.true c.condition-item.is c.judge_condition.ensures

pub returns : goal.returns
returns c = all_noted _ _ _ _ _ c.loop-condition.invariant c.loop-condition-test.false
