use Rattle.std.proofs.Common.{◌≡◌, drop}
use Rattle.std.specs.List.{list_all}
use Rattle.ground_instances.specs.inside.Open.{met_so_far}
use Rattle.ground_instances.proofs.meeting.all_met.Given as goal

abbrev pub invariant-loop-cond : goal.invariant-loop-cond
invariant-loop-cond l = list_all (met_so_far l.task l.args) l.conds ≡ list_all (met_so_far l.task l.args) (drop l.cond-index l.conds)
