use Rattle.std.proofs.Common.{None, false, ap, ◌∙◌, unwrap_or}
use Rattle.plan_step.specs.Held.{state_of}
use Rattle.plan_step.specs.inside.Start.{with_given_values}
use Rattle.plan_step.proofs.Starting.{initial_is}
use Rattle.plan_step.proofs.state.State.initial.Goals as goal

pub returns : goal.returns
returns c =
    let empty = state_of (record { truths = c.in_ok-new.field-0; values = c.in_ok-new-2.field-0 }) in
    c.in_ok-add_values.ensures ∙ ap (with_given_values c.values.result.now) c.in_ok-add_facts.ensures
    ∙ initial_is c.args.task.now c.facts.result.now c.values.result.now empty c.facts.ensures.value c.values.ensures.value
    (λ p args. ap (λ o. unwrap_or o false) (c.in_ok-new.ensures.empty.none p args))
    (λ f args. ap (λ o. unwrap_or o None) (c.in_ok-new-2.ensures.empty.none f args))
