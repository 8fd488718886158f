use Rattle.typing_linear.proofs.Noted.{none_noted, one_more_noted, all_noted}
use Rattle.typing_types.proofs.types.judge_effects.Goals as goal

pub loop-effect-init : goal.loop-effect-init
loop-effect-init c = none_noted _ _ _

pub loop-effect-preserved : goal.loop-effect-preserved
loop-effect-preserved c = one_more_noted _ _ _ _ _ _ _ c.loop-effect.invariant c.loop-effect-test.true c.effect-item.is c.judge_effect.ensures

pub returns : goal.returns
returns c = all_noted _ _ _ _ _ c.loop-effect.invariant c.loop-effect-test.false
