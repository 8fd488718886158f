use Rattle.std.proofs.Common.{◌+◌, ◌*◌}
use Rattle.pddl_form.proofs.Depth.{depth_of, deepest}
use Rattle.pddl_condition.specs.Expression.{expression_form}
use Rattle.pddl_form.proofs.Loops.{AreRead}
use Rattle.pddl_condition.proofs.expression.+expression.Given as goal

abbrev pub invariant-read_expressions-loop-tree : goal.invariant-read_expressions-loop-tree
invariant-read_expressions-loop-tree l = AreRead expression_form l.trees l.tree-index l.initial.faults l.faults l.found

abbrev pub decreases-read_expression : goal.decreases-read_expression
decreases-read_expression l = 6 * depth_of l.tree.now

abbrev pub decreases-read_list : goal.decreases-read_list
decreases-read_list l = 6 * deepest l.items.now + 5

abbrev pub decreases-read_headed : goal.decreases-read_headed
decreases-read_headed l = 6 * deepest l.parts.now + 4

abbrev pub decreases-read_up_to_two : goal.decreases-read_up_to_two
decreases-read_up_to_two l = 6 * deepest l.trees.now + 3

abbrev pub decreases-read_at_least : goal.decreases-read_at_least
decreases-read_at_least l = 6 * deepest l.trees.now + 2

abbrev pub decreases-read_expressions : goal.decreases-read_expressions
decreases-read_expressions l = 6 * deepest l.trees.now + 1
