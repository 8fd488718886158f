use Rattle.std.proofs.Common.{arith, refl, ap}
use Rattle.pddl_condition.specs.Expression.{expression_form}
use Rattle.pddl_form.proofs.Depth.{deepest, list_is_deeper, deepest-get}
use Rattle.pddl_form.proofs.Loops.{one_more_read, all_read, none_read, provided_as, at_least_count, at_most_count}
use Rattle.pddl_condition.proofs.Expressions.{reads_word, reads_list}
use Rattle.pddl_condition.proofs.expression.+expression.Goals as goal

pub read_expressions-loop-tree-init : goal.read_expressions-loop-tree-init
read_expressions-loop-tree-init t c = none_read _ _ _ _ c.new.ensures

pub read_expressions-loop-tree-preserved : goal.read_expressions-loop-tree-preserved
read_expressions-loop-tree-preserved t c = one_more_read _ _ _ _ _ _ _ _ _ _ c.loop-tree.invariant c.loop-tree-test.true c.tree-item.is c.in_ok-one.ensures c.in_ok-add.ensures

pub read_expressions-returns : goal.read_expressions-returns
read_expressions-returns t c = all_read _ _ _ _ _ _ c.loop-tree.invariant c.loop-tree-test.false

pub read_at_least-returns : goal.read_at_least-returns
read_at_least-returns t c = provided_as _ _ _ _ _ _ _ _ _ _ (at_least_count expression_form c.args.least c.args.trees.now) c.saturating_sub.ensures c.in_ok-args.ensures c.provided.ensures.made c.provided.ensures.noted

pub read_up_to_two-returns : goal.read_up_to_two-returns
read_up_to_two-returns t c = provided_as _ _ _ _ _ _ _ _ _ _ (at_most_count expression_form 2 c.args.trees.now) refl c.in_ok-args.ensures c.provided.ensures.made c.provided.ensures.noted

pub read_expression-returns-in-Word : goal.read_expression-returns-in-Word
read_expression-returns-in-Word t c = reads_word _ _ _ _ _ _ _ _ c.in-Word.is c.as_str.ensures c.read_number_expression.ensures

pub read_expression-returns-in-List : goal.read_expression-returns-in-List
read_expression-returns-in-List t c = reads_list _ _ _ _ _ _ _ _ c.in-List.is c.as_slice.ensures c.read_list.ensures

pub read_expression-read_list-requires : goal.read_expression-read_list-requires
read_expression-read_list-requires t c = (omega (arith, list_is_deeper _ _ _ _ c.in-List.is, ap deepest c.as_slice.ensures, c.decreases), tt)

pub read_expressions-read_expression-requires : goal.read_expressions-read_expression-requires
read_expressions-read_expression-requires t c = (omega (arith, deepest-get _ _ _ c.loop-tree-test.true c.tree-item.is, c.decreases), tt)
