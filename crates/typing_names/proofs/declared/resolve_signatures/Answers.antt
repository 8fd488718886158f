use Rattle.pddl_form.proofs.Loops.{one_more_read, all_read, none_read}
use Rattle.typing_names.proofs.declared.resolve_signatures.Goals as goal

pub loop-head-init : goal.loop-head-init
loop-head-init c = none_read _ _ _ _ c.new.ensures

pub loop-head-preserved : goal.loop-head-preserved
loop-head-preserved c = one_more_read _ _ _ _ _ _ _ _ _ _ c.loop-head.invariant c.loop-head-test.true c.head-item.is c.in_ok-one.ensures c.in_ok-add.ensures

pub returns : goal.returns
returns c = all_read _ _ _ _ _ _ c.loop-head.invariant c.loop-head-test.false
