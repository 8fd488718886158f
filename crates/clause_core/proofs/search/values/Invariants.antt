use Rattle.std.proofs.Common.{◌≡◌, List, Some, length, take}
use Rattle.rational.specs.Fraction.{Fraction}
use Rattle.clause_core.proofs.search.values.Given as goal

abbrev pub invariant-loop-v : goal.invariant-loop-v
invariant-loop-v g l = (p : List Fraction) → g.T.Theory.fixed l.theory ≡ Some p → length p ≡ l.vars → l.values.items ≡ take l.v p
