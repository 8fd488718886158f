-- The walk of grounding: what is given at the start, the kept instances, and the goal. A ground atom or function has as its
-- number the place where it is first seen (this project).
use Rattle.std.specs.Prelude.{ℕ, suc, Bool, List, [], ◌∷◌, ◌++◌, map, filter}
use Rattle.std.specs.List.{flat_map}
use Rattle.pddl_task.specs.declared.action.Action.{Action}
use Rattle.pddl_task.specs.declared.start.Fact.{Fact}
use Rattle.pddl_task.specs.declared.start.Given.{Given}
use Rattle.pddl_task.specs.declared.parts.TaskParts.{TaskParts}
use Rattle.pddl_task.specs.Task.{is_changing_pred, is_changing_func}
use Rattle.ground_numbers.specs.declared.named.Named.{Named}
use Rattle.ground_numbers.specs.Numbers.{named, same, once}
use Rattle.ground_action.specs.Setting.{setting_of}
use Rattle.ground_action.specs.GroundAction.{is_kept}
use Rattle.ground_instances.specs.ArgumentLists.{argument_lists}
use Rattle.ground_walk.specs.Sightings.{if_changing, cond_funcs, cond_atoms, instance_funcs, instance_atoms}

-- ---- the kept instances: actions in text order, the instances of one action in rising order of their argument lists

-- an instance, with its action
pub record Kept : Type 0 where
  pub number : ℕ
  pub action : Action
  pub args : List ℕ

-- whether an instance is kept needs no numbers
abbrev pub kept_of_action : TaskParts → Action → List (List ℕ)
kept_of_action task a = filter (is_kept (setting_of task [] []) a) (argument_lists task a)

abbrev pub kept_from : TaskParts → ℕ → List Action → List Kept
kept_from task n [] = []
kept_from task n (a ∷ actions) = map (λ args. record { number = n; action = a; args = args }) (kept_of_action task a) ++ kept_from task (suc n) actions

abbrev pub kept_instances : TaskParts → List Kept
kept_instances task = kept_from task 0 task.actions

-- ---- the sightings in order, and what is left of them without repetitions

abbrev pub fact_atoms : TaskParts → Fact → List Named
fact_atoms task fact = if_changing (is_changing_pred task.actions fact.pred) (named fact.pred fact.args)

abbrev pub given_funcs : TaskParts → Given → List Named
given_funcs task given = if_changing (is_changing_func task.actions given.func) (named given.func given.args)

abbrev pub atoms_seen : TaskParts → List Named
atoms_seen task = flat_map (fact_atoms task) task.facts ++ flat_map (λ (k : Kept). instance_atoms task k.action k.args) (kept_instances task) ++ flat_map (cond_atoms task []) task.goal

abbrev pub funcs_seen : TaskParts → List Named
funcs_seen task = flat_map (given_funcs task) task.values ++ flat_map (λ (k : Kept). instance_funcs task k.action k.args) (kept_instances task) ++ flat_map (cond_funcs task []) task.goal

unfoldable pub atoms_of : TaskParts → List Named
atoms_of task = once same (atoms_seen task)

unfoldable pub funcs_of : TaskParts → List Named
funcs_of task = once same (funcs_seen task)
