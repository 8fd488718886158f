-- The step of an instance from a state, or the first thing that it lacks (PDDL 2.1, level 2; that two leaves may not
-- change one function but by `increase` and `decrease`, and what comes of functions without a value, is this project's).
use Rattle.std.specs.Prelude.{ℕ, ◌==◌, List, [], length, map, slice_get, Option, Some, None, Result, Ok, Err, if◌then◌else◌}
use Rattle.rational.specs.Fraction.{Fraction}
use Rattle.pddl_task.specs.declared.action.Action.{Action}
use Rattle.pddl_task.specs.declared.instance.Instance.{Instance}
use Rattle.pddl_task.specs.declared.parts.TaskParts.{TaskParts}
use Rattle.plan_step.specs.declared.failure.StepFail.{StepFail}
use Rattle.plan_step.specs.declared.failure.StepFail.TheVariants as fail
use Rattle.plan_step.specs.State.{PlanState}
use Rattle.plan_step.specs.Met.{Met, found, lacks, passes}
use Rattle.plan_step.specs.Conditions.{leaves_met, first_unmet}
use Rattle.plan_step.specs.Meaning.{Change, truth_after, all_fit}
use Rattle.plan_step.specs.Effects.{change_met, all_changes, first_clash, values_after}

-- what follows where there is no failure yet
abbrev pub then_next : {A B : Type 0} → Result A StepFail → (A → Result B StepFail) → Result B StepFail
then_next (Ok a) next = next a
then_next (Err e) next = Err e

-- ---- the instance

abbrev pub action_with : ℕ → Option Action → Result Action StepFail
action_with n None = Err fail.Arity
action_with n (Some a) = if length a.params == n then Ok a else Err fail.Arity

-- the action, which takes that many arguments
abbrev pub action_for : TaskParts → Instance → Result Action StepFail
action_for task by = action_with (length by.args) (slice_get task.actions by.action)

abbrev pub typed_arguments : TaskParts → Action → List ℕ → Result (Unit {0}) StepFail
typed_arguments task a args = if all_fit task a.params args then Ok tt else Err fail.ArgType

-- ---- the state after

abbrev pub with_values : List Change → PlanState → Met (ℕ → List ℕ → Option Fraction) → Result PlanState StepFail
with_values changes state (found values) = Ok (record { truth = truth_after changes state.truth; value = values })
-- this never comes: each change has its values
with_values changes state lacks = Ok state
with_values changes state (passes w) = Err (fail.Wide w)

abbrev pub state_after : List Change → PlanState → Result PlanState StepFail
state_after changes state = with_values changes state (values_after changes state.value)

-- the conditions, then the values that effects need, then clashes, then the changes
abbrev pub made_by : PlanState → Action → List ℕ → Result PlanState StepFail
made_by state a args =
    then_next (first_unmet 0 (leaves_met state args a.conds)) (λ _.
    then_next (all_changes 0 (map (change_met state args) a.effs)) (λ changes.
    then_next (first_clash 0 [] changes) (λ _. state_after changes state)))

-- the whole step
unfoldable pub step_from : TaskParts → PlanState → Instance → Result PlanState StepFail
step_from task state by = then_next (action_for task by) (λ a. then_next (typed_arguments task a by.args) (λ _. made_by state a by.args))
