use Rattle.plan_step.specs.Held.{state_of}
use Rattle.ground.proofs.GoalLaws.{goal_has_numbers, goal_made}
use Rattle.ground.proofs.goal.draft_goal.Goals as goal

pub goal_draft-requires : goal.goal_draft-requires
goal_draft-requires c = record {
  numbered = goal_has_numbers c.args.task.now c.args.tables.now (state_of c.args.start.now) c.requires c.see_goal.new.self c.in_ok-see_goal.ensures.atoms c.in_ok-see_goal.ensures.funcs;
}

pub returns : goal.returns
returns c =
    goal_made c.args.task.now c.args.tables.now (state_of c.args.start.now) c.requires c.see_goal.new.self c.in_ok-see_goal.ensures.atoms c.in_ok-see_goal.ensures.funcs c.goal_draft.result c.goal_draft.ensures
