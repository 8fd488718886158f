use Rattle.pddl_form.proofs.Loops.{one_more_read, all_read, none_read}
use Rattle.pddl_condition.specs.Grammar.{is_condition}
use Rattle.typing_uses.proofs.ExpressionLaws.{one_passes}
use Rattle.typing_uses.proofs.conditions.resolve_conditions.Goals as goal

pub loop-cond-init : goal.loop-cond-init
loop-cond-init c = none_read _ _ _ _ c.new.ensures

pub loop-cond-preserved : goal.loop-cond-preserved
loop-cond-preserved c = one_more_read _ _ _ _ _ _ _ _ _ _ c.loop-cond.invariant c.loop-cond-test.true c.cond-item.is c.in_ok-one.ensures c.in_ok-add.ensures

pub returns : goal.returns
returns c = all_read _ _ _ _ _ _ c.loop-cond.invariant c.loop-cond-test.false

pub resolve_condition-requires : goal.resolve_condition-requires
resolve_condition-requires c = one_passes is_condition _ _ _ c.requires c.loop-cond-test.true c.cond-item.is
