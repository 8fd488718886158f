-- The ground task of a task, as a function of the task alone: it has a number for each ground atom and function that is seen,
-- and the ground action of each kept instance, in their order (this project).
use Rattle.std.specs.Prelude.{List, map}
use Rattle.pddl_task.specs.declared.parts.TaskParts.{TaskParts}
use Rattle.task_core.specs.declared.action.GAction.{GAction}
use Rattle.task_core.specs.Task.{GroundParts}
use Rattle.ground_action.specs.Setting.{Setting, setting_of, value_in, truth_in}
use Rattle.ground_action.specs.GroundAction.{ground_action, ground_goal}
use Rattle.ground_walk.specs.Walk.{Kept, kept_instances, atoms_of, funcs_of}

-- with the numbers of the whole walk
abbrev pub numbered : TaskParts → Setting
numbered task = setting_of task (atoms_of task) (funcs_of task)

-- each numbered proposition with its truth and each function with its value at the start, and some actions
abbrev pub parts_in : Setting → List GAction → GAction → GroundParts
parts_in set actions goal = record {
  atoms = map (truth_in set.start) set.propositions;
  funcs = map (value_in set.start) set.funcs;
  actions = actions;
  goal = goal;
}

abbrev pub action_in : Setting → Kept → GAction
action_in set k = ground_action set k.action k.args

abbrev pub task_from : TaskParts → GroundParts
task_from task = parts_in (numbered task) (map (action_in (numbered task)) (kept_instances task)) (ground_goal (numbered task) task.goal)
