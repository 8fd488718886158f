use Rattle.std.proofs.Common.{◌≡◌, drop}
use Rattle.plan_step.specs.Meaning.{all_fit}
use Rattle.ground_instances.proofs.fitting.all_fit.Given as goal

abbrev pub invariant-loop-i : goal.invariant-loop-i
invariant-loop-i l = all_fit l.task l.params l.args ≡ all_fit l.task (drop l.i l.params) (drop l.i l.args)
