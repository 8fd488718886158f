-- The course of grounding: all instances in order, and the operations on fractions that are met on the way (this project).
use Rattle.std.specs.Prelude.{ℕ, nat_lt, List, [], ◌∷◌, ◌++◌, length, if◌then◌else◌}
use Rattle.std.specs.List.{flat_map}
use Rattle.frac128.specs.declared.operations.Wide.{Wide}
use Rattle.pddl_task.specs.declared.parts.TaskParts.{TaskParts}
use Rattle.ground_numbers.specs.declared.named.Named.{Named}
use Rattle.ground_numbers.specs.Numbers.{same, once}
use Rattle.ground_action.specs.Setting.{Setting, setting_of}
use Rattle.ground_action.specs.Work.{instance_ops, goal_ops}
use Rattle.ground_walk.specs.Sightings.{instance_atoms, instance_funcs}
use Rattle.ground_walk.specs.Walk.{Kept, fact_atoms, given_funcs, kept_instances}
use Rattle.ground_laws.specs.Result.{numbered}
use Rattle.ground_entry.specs.Walking.{instances_from, is_kept_in}

-- ---- all instances: actions in text order, the instances of one action in rising order of their argument lists
abbrev pub all_instances : TaskParts → List Kept
all_instances task = instances_from task 0 task.actions

-- ---- what has a number behind some kept instances, by first sight: what is given at the start, and what they name
abbrev pub atoms_with : TaskParts → List Kept → List Named
atoms_with task kept = once same (flat_map (fact_atoms task) task.facts ++ flat_map (λ (k : Kept). instance_atoms task k.action k.args) kept)

abbrev pub funcs_with : TaskParts → List Kept → List Named
funcs_with task kept = once same (flat_map (given_funcs task) task.values ++ flat_map (λ (k : Kept). instance_funcs task k.action k.args) kept)

abbrev pub setting_with : TaskParts → List Kept → Setting
setting_with task kept = setting_of task (atoms_with task kept) (funcs_with task kept)

-- ---- the operations of an instance behind some kept ones: what it names itself has a number too
abbrev pub ops_behind : TaskParts → List Kept → Kept → List Wide
ops_behind task before k = instance_ops (setting_with task (before ++ k ∷ [])) k.action k.args

abbrev pub kept_behind : TaskParts → List Kept → Kept → List Kept
kept_behind task before k = if is_kept_in task k then before ++ k ∷ [] else before

-- those of instances in order, up to the first kept one that is one too many
abbrev pub ops_from : TaskParts → ℕ → List Kept → List Kept → List Wide
ops_from task limit before [] = []
ops_from task limit before (k ∷ more) =
    ops_behind task before k ++ (if nat_lt limit (length (kept_behind task before k)) then [] else ops_from task limit (kept_behind task before k) more)

-- of all instances, and then of the goal, where no instance is one too many
abbrev pub ops_within : TaskParts → ℕ → List Wide
ops_within task limit = ops_from task limit [] (all_instances task) ++ (if nat_lt limit (length (kept_instances task)) then [] else goal_ops (numbered task) task.goal)
