-- A step by the action that an instance fits.
use Rattle.std.proofs.Common.{◌≡◌, List, map, Result, Ok, Err, refl, ap, ◌∙◌}
use Rattle.pddl_task.specs.declared.action.Action.{Action}
use Rattle.pddl_task.specs.declared.instance.Instance.{Instance}
use Rattle.pddl_task.specs.declared.parts.TaskParts.{TaskParts}
use Rattle.plan_step.specs.declared.failure.StepFail.{StepFail}
use Rattle.plan_step.specs.declared.failure.StepFail.TheVariants as fail
use Rattle.plan_step.specs.State.{PlanState}
use Rattle.plan_step.specs.Step.{then_next, action_for, typed_arguments, made_by, step_from}
use Rattle.plan_step.specs.Touches.{Target, target_in, DiffersIn}
use Rattle.plan_step.specs.Fitting.{fitting, touched_by, targets_of}
use Rattle.plan_step.specs.Making.{MakesFail}
use Rattle.plan_step.proofs.Restoring.{differs_refl}

module _ {A : Type 0} (made : Action → Result A StepFail) where
  typed_first : (a : Action) (u : Result (Unit {0}) StepFail) → then_next u (λ _. made a) ≡ then_next (then_next u (λ _. Ok a)) made
  typed_first a (Ok u) = refl
  typed_first a (Err e) = refl

  fitting_first : (typed : Action → Result (Unit {0}) StepFail) (r : Result Action StepFail)
      → then_next r (λ a. then_next (typed a) (λ _. made a)) ≡ then_next (then_next r (λ a. then_next (typed a) (λ _. Ok a))) made
  fitting_first typed (Ok a) = typed_first a (typed a)
  fitting_first typed (Err e) = refl

module _ (task : TaskParts) (s : PlanState) (by : Instance) where
  step_is : step_from task s by ≡ then_next (fitting task by) (λ a. made_by s a by.args)
  unfolding step_from
  step_is = fitting_first (λ a. made_by s a by.args) (λ a. typed_arguments task a by.args) (action_for task by)

  pub step_fits : (a : Action) → fitting task by ≡ Ok a → step_from task s by ≡ made_by s a by.args
  step_fits a fits = step_is ∙ ap (λ r. then_next r (λ b. made_by s b by.args)) fits

  pub step_fails : (e : StepFail) → fitting task by ≡ Err e → step_from task s by ≡ Err e
  step_fails e fails = step_is ∙ ap (λ r. then_next r (λ b. made_by s b by.args)) fails

pub targets_fit : (task : TaskParts) (by : Instance) (a : Action) → fitting task by ≡ Ok a → targets_of task by ≡ map (target_in by.args) a.effs
unfolding targets_of
targets_fit task by a fits = ap (touched_by by) fits

-- ---- failures
pub makes_fail : (meant : Result PlanState StepFail) (old new : PlanState) (e : StepFail) → meant ≡ Err e → new ≡ old → MakesFail meant old new e
makes_fail meant old new fail.Memory is same = same
makes_fail meant old new fail.Arity is same = (is, same)
makes_fail meant old new fail.ArgType is same = (is, same)
makes_fail meant old new (fail.Condition i) is same = (is, same)
makes_fail meant old new (fail.NoValue i) is same = (is, same)
makes_fail meant old new (fail.Clash i) is same = (is, same)
makes_fail meant old new (fail.Wide w) is same = (is, same)

pub same_state : (meant : Result PlanState StepFail) (old new : PlanState) (e : StepFail) → MakesFail meant old new e → new ≡ old
same_state meant old new fail.Memory h = h
same_state meant old new fail.Arity h = h.1
same_state meant old new fail.ArgType h = h.1
same_state meant old new (fail.Condition i) h = h.1
same_state meant old new (fail.NoValue i) h = h.1
same_state meant old new (fail.Clash i) h = h.1
same_state meant old new (fail.Wide w) h = h.1

pub fails_same : (targets : List Target) (meant : Result PlanState StepFail) (old new : PlanState) (e : StepFail) → MakesFail meant old new e → DiffersIn targets old new
fails_same targets meant old new e h = differs_refl targets old new (same_state meant old new e h)
