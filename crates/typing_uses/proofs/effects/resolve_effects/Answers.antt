use Rattle.pddl_form.proofs.Loops.{one_more_read, all_read, none_read}
use Rattle.pddl_domain.specs.Grammar.{is_effect}
use Rattle.typing_uses.proofs.ExpressionLaws.{one_passes}
use Rattle.typing_uses.proofs.effects.resolve_effects.Goals as goal

pub loop-effect-init : goal.loop-effect-init
loop-effect-init c = none_read _ _ _ _ c.new.ensures

pub loop-effect-preserved : goal.loop-effect-preserved
loop-effect-preserved c = one_more_read _ _ _ _ _ _ _ _ _ _ c.loop-effect.invariant c.loop-effect-test.true c.effect-item.is c.in_ok-one.ensures c.in_ok-add.ensures

pub returns : goal.returns
returns c = all_read _ _ _ _ _ _ c.loop-effect.invariant c.loop-effect-test.false

pub resolve_effect-requires : goal.resolve_effect-requires
resolve_effect-requires c = one_passes is_effect _ _ _ c.requires c.loop-effect-test.true c.effect-item.is
