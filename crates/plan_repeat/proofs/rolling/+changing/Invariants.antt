use Rattle.std.proofs.Common.{◌≡◌, ◌+◌, ◌*◌, max, map, drop}
use Rattle.pddl_task.specs.Task.{is_changing_func}
use Rattle.pddl_task.specs.Linear.{any_reads, linearity_of}
use Rattle.plan_step.proofs.Depth.{depth_of, deepest}
use Rattle.plan_repeat.proofs.rolling.+changing.Given as goal

abbrev pub invariant-any_reads-loop-part : goal.invariant-any_reads-loop-part
invariant-any_reads-loop-part l =
    any_reads (map (linearity_of (is_changing_func l.task.actions)) (drop l.part-index l.parts)) ≡ any_reads (map (linearity_of (is_changing_func l.task.actions)) l.parts)

abbrev pub decreases-any_reads : goal.decreases-any_reads
decreases-any_reads l = 2 * deepest l.parts.now + 1

abbrev pub decreases-either_reads : goal.decreases-either_reads
decreases-either_reads l = 2 * max (depth_of l.left.now) (depth_of l.right.now) + 1

abbrev pub decreases-reads_changing : goal.decreases-reads_changing
decreases-reads_changing l = 2 * depth_of l.expr.now
