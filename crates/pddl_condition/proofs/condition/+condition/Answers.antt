use Rattle.std.proofs.Common.{arith, ap}
use Rattle.pddl_form.proofs.Depth.{deepest, list_is_deeper, deepest-get}
use Rattle.pddl_form.proofs.Loops.{one_more_joined, all_joined, none_joined}
use Rattle.pddl_condition.proofs.Conditions.{reads_word, reads_list}
use Rattle.pddl_condition.proofs.condition.+condition.Goals as goal

pub read_leaves-loop-tree-init : goal.read_leaves-loop-tree-init
read_leaves-loop-tree-init t c = none_joined _ _ _ _ c.new.ensures

pub read_leaves-loop-tree-preserved : goal.read_leaves-loop-tree-preserved
read_leaves-loop-tree-preserved t c = one_more_joined _ _ _ _ _ _ _ _ _ _ c.loop-tree.invariant c.loop-tree-test.true c.tree-item.is c.in_ok-more.ensures c.in_ok-add_all.ensures

pub read_leaves-returns : goal.read_leaves-returns
read_leaves-returns t c = all_joined _ _ _ _ _ _ c.loop-tree.invariant c.loop-tree-test.false

pub read_condition-returns-in-List : goal.read_condition-returns-in-List
read_condition-returns-in-List t c = reads_list _ _ _ _ _ _ _ _ c.in-List.is c.as_slice.ensures c.read_list.ensures

pub read_condition-read_list-requires : goal.read_condition-read_list-requires
read_condition-read_list-requires t c = (omega (arith, list_is_deeper _ _ _ _ c.in-List.is, ap deepest c.as_slice.ensures, c.decreases), tt)

pub read_leaves-read_condition-requires : goal.read_leaves-read_condition-requires
read_leaves-read_condition-requires t c = (omega (arith, deepest-get _ _ _ c.loop-tree-test.true c.tree-item.is, c.decreases), tt)

pub read_condition-returns-in-Word : goal.read_condition-returns-in-Word
read_condition-returns-in-Word t c = reads_word _ _ _ _ _ _ c.in-Word.is c.misshapen.ensures
