-- The first condition that binds the next argument says which objects can follow.
use Rattle.std.proofs.Common.{length}
use Rattle.ground_instances.proofs.Candidates.{chosen_next, chosen_none}
use Rattle.ground_instances.proofs.search.candidate.Goals as goal

pub returns-in-Next : goal.returns-in-Next
returns-in-Next c =
    chosen_next c.args.search.now.task.now c.args.search.now.action.now c.as_slice-cond-items.result.now c.as_slice-cond-items.ensures c.loop-cond.cond-index c.cond-item.result c.loop-cond-test.true c.cond-item.is
    (length c.args.search.now.task.now.objects) c.args.args.now c.args.low c.in_ok-object.field-0 c.in-Next.object c.in_ok-object.ensures c.in-Next.is

pub returns-in-Nothing : goal.returns-in-Nothing
returns-in-Nothing c =
    chosen_none c.args.search.now.task.now c.args.search.now.action.now c.as_slice-cond-items.result.now c.as_slice-cond-items.ensures c.loop-cond.cond-index c.cond-item.result c.loop-cond-test.true c.cond-item.is
    (length c.args.search.now.task.now.objects) c.args.args.now c.args.low c.in_ok-object.field-0 c.in_ok-object.ensures c.in-Nothing.is
