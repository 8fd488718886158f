use Rattle.std.proofs.Common.{◌+◌, ◌*◌}
use Rattle.pddl_form.proofs.Depth.{depth_of, deepest}
use Rattle.pddl_condition.specs.Condition.{condition_form}
use Rattle.pddl_form.proofs.Loops.{AreJoined}
use Rattle.pddl_condition.proofs.condition.+condition.Given as goal

abbrev pub invariant-read_leaves-loop-tree : goal.invariant-read_leaves-loop-tree
invariant-read_leaves-loop-tree l = AreJoined condition_form l.trees l.tree-index l.initial.faults l.faults l.found

abbrev pub decreases-read_condition : goal.decreases-read_condition
decreases-read_condition l = 4 * depth_of l.tree.now

abbrev pub decreases-read_list : goal.decreases-read_list
decreases-read_list l = 4 * deepest l.items.now + 3

abbrev pub decreases-read_headed : goal.decreases-read_headed
decreases-read_headed l = 4 * deepest l.parts.now + 2

abbrev pub decreases-read_leaves : goal.decreases-read_leaves
decreases-read_leaves l = 4 * deepest l.trees.now + 1
