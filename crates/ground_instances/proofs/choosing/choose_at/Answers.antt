-- The objects that the index lists are those with which the literal holds.
use Rattle.std.proofs.Common.{◌∙◌, length}
use Rattle.ground_instances.proofs.Standing.{next_one, none_next}
use Rattle.ground_instances.proofs.choosing.choose_at.Goals as goal

pub returns-in-Some : goal.returns-in-Some
returns-in-Some c =
    next_one c.args.task.now c.args.args.now c.args.pred c.args.terms.now c.args.place c.requires.binding c.requires.fixed c.args.facts.now c.requires.index c.as_slice.result.now c.objects-objects.result.now
    (c.as_slice.ensures ∙ c.in_ok-around.ensures) c.objects-objects.ensures (length c.args.task.now.objects) c.args.low c.objects.result c.in-Some.object c.objects.ensures.value c.in-Some.ensures

pub returns : goal.returns
returns c =
    none_next c.args.task.now c.args.args.now c.args.pred c.args.terms.now c.args.place c.requires.binding c.requires.fixed c.args.facts.now c.requires.index c.as_slice.result.now c.objects-objects.result.now
    (c.as_slice.ensures ∙ c.in_ok-around.ensures) c.objects-objects.ensures (length c.args.task.now.objects) c.args.low c.objects.result c.objects.ensures.value c.in-None.ensures
