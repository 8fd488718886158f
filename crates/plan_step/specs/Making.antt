-- What making a step answers.
use Rattle.std.specs.Prelude.{◌≡◌, ℕ, true, List, map, Some, Result, Ok, Err}
use Rattle.pddl_task.specs.declared.action.Action.{Action}
use Rattle.plan_step.specs.declared.failure.StepFail.{StepFail}
use Rattle.plan_step.specs.declared.failure.StepFail.TheVariants as fail
use Rattle.plan_step.specs.State.{PlanState}
use Rattle.plan_step.specs.Meaning.{Change, all_hold, change_of, IsClean, truth_after, value_after}

-- a failure: the state is as before, and want of memory aside the failure is what is meant
abbrev pub MakesFail : Result PlanState StepFail → PlanState → PlanState → StepFail → Type 0
MakesFail meant old new fail.Memory = new ≡ old
MakesFail meant old new e = (meant ≡ Err e) × (new ≡ old)

-- the state is what is meant, or there is a failure
abbrev pub Makes : {A : Type 0} → Result PlanState StepFail → PlanState → PlanState → Result A StepFail → Type 0
Makes meant old new (Ok _) = meant ≡ Ok new
Makes meant old new (Err e) = MakesFail meant old new e

-- the step of an action at these arguments, in unlimited fractions, by these changes
pub record StepsBy (old : PlanState) (action : Action) (args : List ℕ) (changes : List Change) (new : PlanState) : Type 0 where
  pub conditions : all_hold old args action.conds ≡ true
  pub values : map (change_of old args) action.effs ≡ map Some changes
  pub clean : IsClean changes
  pub truth : (p : ℕ) (others : List ℕ) → new.truth p others ≡ truth_after changes old.truth p others
  pub value : (f : ℕ) (others : List ℕ) → new.value f others ≡ value_after changes f others (old.value f others)
