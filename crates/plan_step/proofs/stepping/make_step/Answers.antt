use Rattle.std.proofs.Common.{List, ℕ, map, refl, sym, ap, subst, ◌∙◌, Result}
use Rattle.std.proofs.lemmas.Result.{err_from_is_err_and, IfOk-weaker}
use Rattle.plan_step.specs.declared.failure.StepFail.{StepFail}
use Rattle.plan_step.specs.declared.touches.Touch.{Touch}
use Rattle.plan_step.specs.State.{PlanState}
use Rattle.plan_step.specs.Held.{state_of}
use Rattle.plan_step.specs.Step.{made_by}
use Rattle.plan_step.specs.Touches.{Target, target_in}
use Rattle.plan_step.specs.Making.{Makes}
use Rattle.plan_step.specs.Undoing.{WasBefore}
use Rattle.plan_step.proofs.Fitting.{step_fits, step_fails, targets_fit, makes_fail}
use Rattle.plan_step.proofs.stepping.make_step.Goals as goal

pub returns-in_err-action-clause-made : goal.returns-in_err-action-clause-made
returns-in_err-action-clause-made c =
    let p = err_from_is_err_and c.from_residual.result c.from_residual.ensures.1 in
    let old = state_of c.args.state.now in
    rw (p.1, p.2) (makes_fail _ old old c.in_err-action.field-0.0 (step_fails c.args.task.now old c.args.by.now c.in_err-action.field-0.0 c.in_err-action.ensures) refl)

pub returns-clause-made : goal.returns-clause-made
returns-clause-made c =
    let old = state_of c.args.state.now in
    let new = state_of c.make.new.state in
    let action = c.in_ok-action.action.now in
    subst (λ (r : Result PlanState StepFail). Makes r old new c.make.result)
    (ap (λ (args : List ℕ). made_by old action args) c.as_slice.ensures ∙ sym (step_fits c.args.task.now old c.args.by.now action c.in_ok-action.ensures)) c.make.ensures.made

pub returns-clause-before : goal.returns-clause-before
returns-clause-before c =
    let old = state_of c.args.state.now in
    let action = c.in_ok-action.action.now in
    let same = ap (λ (args : List ℕ). map (target_in args) action.effs) c.as_slice.ensures ∙ sym (targets_fit c.args.task.now c.args.by.now action c.in_ok-action.ensures) in
    IfOk-weaker c.make.result (λ (ts : List Touch). WasBefore (map (target_in c.as_slice.result.now) action.effs) old c.make.new.state ts) _
    (λ ts h. subst (λ (targets : List Target). WasBefore targets old c.make.new.state ts) same h) c.make.ensures.before
