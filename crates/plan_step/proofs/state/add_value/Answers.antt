use Rattle.std.proofs.Common.{Some, sym, ap, ◌∙◌}
use Rattle.plan_step.specs.State.{PlanState}
use Rattle.plan_step.specs.Held.{state_of}
use Rattle.plan_step.specs.Places.{with_function}
use Rattle.plan_step.proofs.Starting.{given_more, has_none}
use Rattle.plan_step.proofs.state.add_value.Goals as goal

pub returns-in_ok-make_function_place : goal.returns-in_ok-make_function_place
returns-in_ok-make_function_place c =
    let args = c.as_slice-args.result.now in
    let old = state_of c.args.state.now in
    c.put_value.ensures.put
    ∙ ap (λ (s : PlanState). with_function s c.args.given.now.func args (Some c.args.given.now.value)) c.make_function_place.ensures.same
    ∙ given_more c.args.given.now args old c.as_slice-args.ensures (has_none _ _ c.is_none.result (sym c.value.ensures) c.is_none.ensures c.if-is_none.true)
