use Rattle.plan_step.specs.Held.{state_of}
use Rattle.plan_repeat.proofs.Zeros.{touch-unfound}
use Rattle.plan_repeat.proofs.growing.growth_of.Goals as goal

pub returns-in-Function-clause-passes : goal.returns-in-Function-clause-passes
returns-in-Function-clause-passes c =
    touch-unfound (state_of c.args.state.now) c.args.touch.now c.in-Function.op c.in-Function.func c.in-Function.args c.as_slice.result.now c.in-Function.by c.in-Function.old c.value.result c.difference.result c.in-Function.is c.as_slice.ensures c.value.ensures c.difference.ensures.passes
