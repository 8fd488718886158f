use Rattle.simplex_law.specs.Config.{pair_at}
use Rattle.simplex_judge.specs.Points.{AreValues}
use Rattle.simplex_judge.proofs.pointing.values.Given as goal

abbrev pub invariant-loop-i : goal.invariant-loop-i
invariant-loop-i l = AreValues (pair_at l.pairs) l.i l.d l.values.items
