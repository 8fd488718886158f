use Rattle.pddl_form.proofs.Loops.{one_more_read, all_read, none_read}
use Rattle.pddl_domain.specs.Grammar.{is_action}
use Rattle.typing_uses.proofs.ExpressionLaws.{one_passes}
use Rattle.typing_names.proofs.actions.resolve_actions.Goals as goal

pub loop-action-init : goal.loop-action-init
loop-action-init c = none_read _ _ _ _ c.new.ensures

pub loop-action-preserved : goal.loop-action-preserved
loop-action-preserved c = one_more_read _ _ _ _ _ _ _ _ _ _ c.loop-action.invariant c.loop-action-test.true c.action-item.is c.in_ok-one.ensures c.in_ok-add.ensures

pub returns : goal.returns
returns c = all_read _ _ _ _ _ _ c.loop-action.invariant c.loop-action-test.false

pub resolve_action-requires : goal.resolve_action-requires
resolve_action-requires c = one_passes is_action _ _ _ c.requires c.loop-action-test.true c.action-item.is
