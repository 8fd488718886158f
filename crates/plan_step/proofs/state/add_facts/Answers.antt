use Rattle.std.proofs.Common.{true, ap, ◌∙◌}
use Rattle.plan_step.specs.State.{PlanState}
use Rattle.plan_step.specs.Held.{state_of}
use Rattle.plan_step.specs.Places.{with_atom}
use Rattle.plan_step.proofs.Starting.{facts_more}
use Rattle.plan_step.proofs.state.add_facts.Goals as goal

pub loop-fact-preserved : goal.loop-fact-preserved
loop-fact-preserved c =
    c.put_atom.ensures.put
    ∙ ap (λ (s : PlanState). with_atom s c.fact-item.result.pred c.as_slice-in-loop-fact.result.now true) (c.make_atom_place.ensures.same ∙ c.loop-fact.invariant)
    ∙ facts_more c.args.facts.now c.loop-fact.fact-index c.fact-item.result c.as_slice-in-loop-fact.result.now (state_of c.args.state.now) c.loop-fact-test.true c.fact-item.is c.as_slice-in-loop-fact.ensures
