use Rattle.std.proofs.Common.{◌≡◌, take, map}
use Rattle.plan_step.specs.Meaning.{object_of}
use Rattle.ground_parts.proofs.terms.objects.Given as goal

abbrev pub invariant-loop-term : goal.invariant-loop-term
invariant-loop-term l = l.objects.items ≡ map (object_of l.args) (take l.term-index l.terms)
