use Rattle.std.proofs.Common.{◌≡◌, ◌+◌, ◌*◌, max, take}
use Rattle.std.specs.List.{flat_map}
use Rattle.plan_step.proofs.Depth.{depth_of, deepest}
use Rattle.ground_walk.specs.Sightings.{names_of}
use Rattle.ground_seen.specs.Seen.{seen}
use Rattle.ground_seen.proofs.expression.+seeing.Given as goal

abbrev pub invariant-see_parts-loop-part : goal.invariant-see_parts-loop-part
invariant-see_parts-loop-part l = l.funcs ≡ seen l.initial.funcs (flat_map (names_of l.task l.args) (take l.part-index l.parts))

abbrev pub decreases-see_parts : goal.decreases-see_parts
decreases-see_parts l = 2 * deepest l.parts.now + 1

abbrev pub decreases-see_both : goal.decreases-see_both
decreases-see_both l = 2 * max (depth_of l.left.now) (depth_of l.right.now) + 1

abbrev pub decreases-see_expression : goal.decreases-see_expression
decreases-see_expression l = 2 * depth_of l.expr.now
