use Rattle.std.proofs.Common.{length, ◌-◌, ◌^◌}
use Rattle.ground_instances.specs.inside.Open.{is_open}
use Rattle.ground_instances.proofs.Steps.{Turning}
use Rattle.ground_instances.proofs.search.+complete.Given as goal

abbrev pub decreases-complete : goal.decreases-complete
decreases-complete l = length l.args.now - l.at

abbrev pub invariant-loop-object : goal.invariant-loop-object
invariant-loop-object l = Turning (length l.search.task.now.objects) (is_open l.search.task.now l.search.action.now) l.initial.args l.at l.initial.low l.args l.low

abbrev pub decreases-loop-object : goal.decreases-loop-object
decreases-loop-object l = 2 ^ 32 - l.low
