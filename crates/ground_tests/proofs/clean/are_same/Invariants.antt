use Rattle.std.proofs.Common.{◌≡◌, drop}
use Rattle.std.specs.Prelude.{bytes_eq}
use Rattle.plan_step.specs.Meaning.{objects_of}
use Rattle.ground_tests.proofs.clean.are_same.Given as goal

abbrev pub invariant-loop-i : goal.invariant-loop-i
invariant-loop-i l = bytes_eq (objects_of l.args l.terms) (objects_of l.args l.others) ≡ bytes_eq (objects_of l.args (drop l.i l.terms)) (objects_of l.args (drop l.i l.others))
