use Rattle.std.proofs.Common.{◌≡◌, length, take, map}
use Rattle.plan_step.specs.Meaning.{object_of}
use Rattle.plan_step.proofs.terms.write_objects.Given as goal

abbrev pub invariant-loop-i : goal.invariant-loop-i
invariant-loop-i l = record {
  room : length l.into ≡ length l.initial.into;
  written : take l.i l.into ≡ map (object_of l.args) (take l.i l.terms);
}
