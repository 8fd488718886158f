use Rattle.std.proofs.Common.{◌≡◌, List, map, slice_get, Some, sym, ap, ◌∙◌}
use Rattle.pddl_task.specs.declared.instance.Instance.{Instance}
use Rattle.ground_walk.specs.Walk.{kept_instances}
use Rattle.ground_laws.specs.Laws.{instance_of}
use Rattle.search.proofs.InstanceLaws.{call_at}
use Rattle.search.proofs.instance.instance_of.Goals as goal

pub returns-clause-call : goal.returns-clause-call
returns-clause-call c = call_at c.args.task.now (kept_instances c.args.task.now) c.args.action c.instance_of.result.now (c.kept_instances_are_calls.ensures c.args.task.now)
    (ap (λ (is : List Instance). slice_get is c.args.action) (sym c.requires.grounded.instances_are) ∙ c.instance_of.ensures)
