use Rattle.std.proofs.Common.{arith}
use Rattle.plan_text.proofs.Numbering.{numbering_next}
use Rattle.plan_text.proofs.numbers.number_objects.Goals as goal

pub loop-place-preserved : goal.loop-place-preserved
loop-place-preserved c = numbering_next (λ o. o.name) c.args.task.now.objects c.loop-place.place c.object_name.result.now _ (omega arith) c.object_name.ensures (λ is. c.in_ok-add.ensures _ is c.loop-place.invariant)
