use Rattle.std.proofs.Common.{◌≡◌, ◌+◌, ◌*◌, ◌++◌, max, drop}
use Rattle.std.specs.List.{flat_map}
use Rattle.plan_step.proofs.Depth.{depth_of, deepest}
use Rattle.ground_parts.specs.Forms.{setting_in}
use Rattle.ground_draft.specs.inside.Lists.{expression_reads}
use Rattle.ground_draft.proofs.reads.+reads.Given as goal

abbrev pub invariant-add_all-loop-part : goal.invariant-add_all-loop-part
invariant-add_all-loop-part l =
    l.initial.out ++ flat_map (expression_reads (setting_in l.given) l.args) l.parts ≡ l.out ++ flat_map (expression_reads (setting_in l.given) l.args) (drop l.part-index l.parts)

abbrev pub decreases-add_reads : goal.decreases-add_reads
decreases-add_reads l = 3 * depth_of l.expr.now

abbrev pub decreases-add_all : goal.decreases-add_all
decreases-add_all l = 3 * deepest l.parts.now + 1

abbrev pub decreases-add_both : goal.decreases-add_both
decreases-add_both l = 3 * max (depth_of l.left.now) (depth_of l.right.now) + 1
