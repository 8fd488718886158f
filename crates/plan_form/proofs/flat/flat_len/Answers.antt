use Rattle.plan_form.proofs.Lengths.{steps_are}
use Rattle.plan_form.proofs.flat.flat_len.Goals as goal

pub returns : goal.returns
returns c = steps_are _ _ c.args.plan.now c.sum_of_counts.ensures c.parts.ensures.value
