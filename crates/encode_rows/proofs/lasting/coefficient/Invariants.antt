use Rattle.std.proofs.Common.{◌≡◌, drop}
use Rattle.rational.specs.Linear.{coefficient_of}
use Rattle.encode_rows.proofs.lasting.coefficient.Given as goal

abbrev pub invariant-loop-i : goal.invariant-loop-i
invariant-loop-i l = coefficient_of l.v (drop l.i l.l.terms) ≡ coefficient_of l.v l.l.terms
