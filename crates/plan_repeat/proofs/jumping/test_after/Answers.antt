use Rattle.std.proofs.Common.{inl, inr, Err, ap, ◌∙◌}
use Rattle.std.proofs.lemmas.Result.{err_from_is_err_and}
use Rattle.plan_step.specs.State.{PlanState}
use Rattle.plan_step.specs.Conditions.{leaves_met, first_unmet}
use Rattle.plan_repeat.proofs.jumping.test_after.Goals as goal

pub returns-in_err-roll_to-clause-tests : goal.returns-in_err-roll_to-clause-tests
returns-in_err-roll_to-clause-tests c =
    let p = err_from_is_err_and c.from_residual.result c.from_residual.ensures.1 in
    λ s base.
    let e = c.in_err-roll_to.ensures.rolls s base in
    inl (record { w = c.in_err-roll_to.field-0.0; is = p.1 ∙ ap Err p.2; operation = e.0; passes = e.1 })

pub returns-clause-tests : goal.returns-clause-tests
returns-clause-tests c =
    λ s base.
    let made = c.in_ok-roll_to.ensures.rolls s base in
    inr (made, c.test_conditions.ensures ∙ ap (λ (u : PlanState). first_unmet 0 (leaves_met u c.args.args.now c.args.conds.now)) made)
