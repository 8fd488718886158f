use Rattle.std.proofs.Common.{◌≡◌, ◌+◌, ◌*◌, max, drop}
use Rattle.std.specs.List.{list_all}
use Rattle.plan_step.proofs.Depth.{depth_of, deepest}
use Rattle.ground_action.specs.Work.{has_values}
use Rattle.ground_parts.specs.Forms.{setting_in}
use Rattle.ground_tests.proofs.values.+values.Given as goal

abbrev pub invariant-all_have_values-loop-part : goal.invariant-all_have_values-loop-part
invariant-all_have_values-loop-part l = list_all (has_values (setting_in l.given) l.args) l.parts ≡ list_all (has_values (setting_in l.given) l.args) (drop l.part-index l.parts)

abbrev pub decreases-has_values : goal.decreases-has_values
decreases-has_values l = 3 * depth_of l.expr.now

abbrev pub decreases-all_have_values : goal.decreases-all_have_values
decreases-all_have_values l = 3 * deepest l.parts.now + 1

abbrev pub decreases-both_have_values : goal.decreases-both_have_values
decreases-both_have_values l = 3 * max (depth_of l.left.now) (depth_of l.right.now) + 1
