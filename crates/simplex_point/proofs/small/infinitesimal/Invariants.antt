use Rattle.simplex_law.specs.Config.{pair_at}
use Rattle.simplex_check.specs.Checks.{limits}
use Rattle.simplex_point.specs.Point.{IsInfinitesimal}
use Rattle.simplex_point.proofs.small.infinitesimal.Given as goal

abbrev pub invariant-loop-i : goal.invariant-loop-i
invariant-loop-i l = IsInfinitesimal (limits l.lower l.upper) (pair_at l.values) l.i l.d
