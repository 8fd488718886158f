use Rattle.std.proofs.Common.{refl}
use Rattle.typing_linear.specs.Linear.{changes}
use Rattle.typing_linear.proofs.Changed.{also_none, one_more_also, all_also}
use Rattle.typing_linear.proofs.linear.add_all_changed.Goals as goal

pub loop-effect-init : goal.loop-effect-init
loop-effect-init c = also_none _ _ (λ func. refl)

pub loop-effect-preserved : goal.loop-effect-preserved
loop-effect-preserved c = one_more_also changes _ _ _ _ _ _ c.loop-effect.invariant c.loop-effect-test.true c.effect-item.is c.in_ok-add_changed.ensures

pub returns : goal.returns
returns c = all_also changes _ _ _ _ c.loop-effect.invariant c.loop-effect-test.false
