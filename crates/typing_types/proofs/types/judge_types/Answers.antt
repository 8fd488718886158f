use Rattle.typing_linear.proofs.Noted.{none_noted, one_more_noted, all_noted}
use Rattle.typing_types.proofs.types.judge_types.Goals as goal

pub loop-one-init : goal.loop-one-init
loop-one-init c = none_noted _ _ _

pub loop-one-preserved : goal.loop-one-preserved
loop-one-preserved c = one_more_noted _ _ _ _ _ _ _ c.loop-one.invariant c.loop-one-test.true c.one-item.is c.judge_type.ensures

pub returns : goal.returns
returns c = all_noted _ _ _ _ _ c.loop-one.invariant c.loop-one-test.false
