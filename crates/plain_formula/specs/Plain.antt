-- Ground tasks without numbers: the actions ask for and change propositions alone. The goal may compare constants, as one does that
-- can't hold because a static condition of it fails.
use Rattle.std.specs.Prelude.{Bool, ◌&&◌}
use Rattle.std.specs.List.{list_all}
use Rattle.lin.specs.Linear.{Linear}
use Rattle.lin.specs.declared.comparison.Cmp.{Cmp}
use Rattle.task_core.specs.declared.action.GAction.{GAction}
use Rattle.task_core.specs.Step.{is_empty}
use Rattle.task_core.specs.Task.{GroundParts}

abbrev pub is_plain : GAction → Bool
is_plain a = is_empty a.cmps && (is_empty a.sets && is_empty a.incs)

abbrev pub is_constant : Linear × Cmp → Bool
is_constant c = is_empty c.0.terms

abbrev pub is_plain_goal : GAction → Bool
is_plain_goal goal = list_all is_constant goal.cmps

abbrev pub is_plain_task : GroundParts → Bool
is_plain_task task = is_plain_goal task.goal && list_all is_plain task.actions
