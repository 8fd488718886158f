use Rattle.pddl_form.proofs.Loops.{one_more_read, all_read, none_read}
use Rattle.typing_names.proofs.declared.resolve_objects.Goals as goal

pub loop-object-init : goal.loop-object-init
loop-object-init c = none_read _ _ _ _ c.new.ensures

pub loop-object-preserved : goal.loop-object-preserved
loop-object-preserved c = one_more_read _ _ _ _ _ _ _ _ _ _ c.loop-object.invariant c.loop-object-test.true c.object-item.is c.in_ok-one.ensures c.in_ok-add.ensures

pub returns : goal.returns
returns c = all_read _ _ _ _ _ _ c.loop-object.invariant c.loop-object-test.false
