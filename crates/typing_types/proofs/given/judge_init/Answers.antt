use Rattle.typing_linear.proofs.Noted.{none_noted, one_more_noted, all_noted}
use Rattle.typing_types.proofs.given.judge_init.Goals as goal

pub loop-item-init : goal.loop-item-init
loop-item-init c = none_noted _ _ _

pub loop-item-preserved : goal.loop-item-preserved
loop-item-preserved c = one_more_noted _ _ _ _ _ _ _ c.loop-item.invariant c.loop-item-test.true c.item-item.is c.judge_init_item.ensures

pub returns : goal.returns
returns c = all_noted _ _ _ _ _ c.loop-item.invariant c.loop-item-test.false
