use Rattle.typing.proofs.Passes.{task_linked}
use Rattle.typing.proofs.linking.link_problem.Goals as goal

pub returns-in-Ok : goal.returns-in-Ok
returns-in-Ok c = task_linked c.args.domain.now c.args.problem.now c.args.made c.args.more c.requires.resolved c.in-Ok.ensures.faultless _ c.make_task.ensures.made c.make_task.ensures.refused

pub returns-in-Err : goal.returns-in-Err
returns-in-Err c = c.in-Err.ensures.refused
