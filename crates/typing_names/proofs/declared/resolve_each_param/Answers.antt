use Rattle.pddl_form.proofs.Loops.{one_more_read, all_read, none_read}
use Rattle.typing_names.proofs.declared.resolve_each_param.Goals as goal

pub loop-param-init : goal.loop-param-init
loop-param-init c = none_read _ _ _ _ c.new.ensures

pub loop-param-preserved : goal.loop-param-preserved
loop-param-preserved c = one_more_read _ _ _ _ _ _ _ _ _ _ c.loop-param.invariant c.loop-param-test.true c.param-item.is c.in_ok-one.ensures c.in_ok-add.ensures

pub returns : goal.returns
returns c = all_read _ _ _ _ _ _ c.loop-param.invariant c.loop-param-test.false
