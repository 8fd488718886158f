use Rattle.pddl_form.proofs.Loops.{one_more_read, all_read, none_read}
use Rattle.pddl_domain.proofs.head.read_predicates.Goals as goal

pub loop-tree-init : goal.loop-tree-init
loop-tree-init c = none_read _ _ _ _ c.new.ensures

pub loop-tree-preserved : goal.loop-tree-preserved
loop-tree-preserved c = one_more_read _ _ _ _ _ _ _ _ _ _ c.loop-tree.invariant c.loop-tree-test.true c.tree-item.is c.in_ok-one.ensures c.in_ok-add.ensures

pub returns : goal.returns
returns c = all_read _ _ _ _ _ _ c.loop-tree.invariant c.loop-tree-test.false
