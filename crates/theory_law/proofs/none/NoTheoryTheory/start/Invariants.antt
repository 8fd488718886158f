use Rattle.theory_law.proofs.Atomless.{AreAtomless}
use Rattle.theory_law.proofs.none.NoTheoryTheory.start.Given as goal

abbrev pub invariant-loop-b : goal.invariant-loop-b
invariant-loop-b l = AreAtomless l.formula.atoms l.b
