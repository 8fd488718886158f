use Rattle.std.proofs.Common.{◌+◌, ◌*◌, max, map}
use Rattle.plan_step.specs.Held.{state_of}
use Rattle.plan_step.specs.Evaluation.{evaluated, folded}
use Rattle.plan_step.proofs.Depth.{depth_of, deepest}
use Rattle.plan_step.proofs.Folding.{IsFolded}
use Rattle.plan_step.proofs.evaluation.+evaluation.Given as goal

abbrev pub invariant-evaluate_fold-loop-part : goal.invariant-evaluate_fold-loop-part
invariant-evaluate_fold-loop-part l =
    IsFolded (evaluated (state_of l.state) l.args) l.op (folded l.op (map (evaluated (state_of l.state) l.args) l.parts)) l.x l.more l.part-index

abbrev pub decreases-evaluate : goal.decreases-evaluate
decreases-evaluate l = 3 * depth_of l.expr.now

abbrev pub decreases-evaluate_fold : goal.decreases-evaluate_fold
decreases-evaluate_fold l = 3 * deepest l.parts.now + 1

abbrev pub decreases-evaluate_negative : goal.decreases-evaluate_negative
decreases-evaluate_negative l = 3 * depth_of l.part.now + 1

abbrev pub decreases-evaluate_both : goal.decreases-evaluate_both
decreases-evaluate_both l = 3 * max (depth_of l.left.now) (depth_of l.right.now) + 1

abbrev pub decreases-evaluate_difference : goal.decreases-evaluate_difference
decreases-evaluate_difference l = 3 * max (depth_of l.left.now) (depth_of l.right.now) + 2

abbrev pub decreases-evaluate_quotient : goal.decreases-evaluate_quotient
decreases-evaluate_quotient l = 3 * max (depth_of l.left.now) (depth_of l.right.now) + 2
