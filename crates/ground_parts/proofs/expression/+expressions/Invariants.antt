use Rattle.std.proofs.Common.{◌+◌, ◌*◌, max, map}
use Rattle.plan_step.proofs.Depth.{depth_of, deepest}
use Rattle.ground_parts.specs.Forms.{setting_in}
use Rattle.ground_parts.specs.inside.Parts.{part_met, folded}
use Rattle.ground_parts.proofs.Folding.{IsFolded}
use Rattle.ground_parts.proofs.expression.+expressions.Given as goal

abbrev pub invariant-meet_all-loop-expr : goal.invariant-meet_all-loop-expr
invariant-meet_all-loop-expr l =
    IsFolded (part_met (setting_in l.given) l.args) l.joint (folded l.joint (map (part_met (setting_in l.given) l.args) l.parts)) l.so_far l.more l.expr-index

abbrev pub decreases-meet : goal.decreases-meet
decreases-meet l = 3 * depth_of l.expr.now

abbrev pub decreases-meet_all : goal.decreases-meet_all
decreases-meet_all l = 3 * deepest l.parts.now + 1

abbrev pub decreases-meet_negative : goal.decreases-meet_negative
decreases-meet_negative l = 3 * depth_of l.expr.now + 1

abbrev pub decreases-meet_both : goal.decreases-meet_both
decreases-meet_both l = 3 * max (depth_of l.left.now) (depth_of l.right.now) + 1
