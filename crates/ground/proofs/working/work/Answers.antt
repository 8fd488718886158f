use Rattle.std.proofs.lemmas.Result.{err_from_is_err_and}
use Rattle.ground.proofs.Together.{worked, goal_refused, walk_refused}
use Rattle.ground.proofs.working.work.Goals as goal

pub returns-in_err-walk : goal.returns-in_err-walk
returns-in_err-walk c =
    let p = err_from_is_err_and c.from_residual.result c.from_residual.ensures.1 in rw (p.1, p.2) (walk_refused c.args.task.now c.args.limit _ c.in_err-walk.ensures)

pub returns-in_err-goal : goal.returns-in_err-goal
returns-in_err-goal c =
    let p = err_from_is_err_and c.from_residual-in_err-goal.result c.from_residual-in_err-goal.ensures.1 in
    rw (p.1, p.2) (goal_refused c.args.task.now c.args.limit c.in_ok-walk.walk c.in_ok-walk.ensures _ c.in_err-goal.ensures)

pub returns : goal.returns
returns c = worked c.args.task.now c.args.limit c.in_ok-walk.walk c.in_ok-walk.ensures c.draft_goal.new.tables c.in_ok-goal.goal c.in_ok-goal.ensures
