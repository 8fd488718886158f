use Rattle.std.proofs.Common.{◌≤◌}
use Rattle.clause_learn.specs.inside.Analysis.{IsMarkedUp}
use Rattle.clause_learn.specs.inside.Leaving.{HasOneLeft}
use Rattle.clause_learn.proofs.resolve.resolve_range.Given as goal

abbrev pub invariant-loop-i : goal.invariant-loop-i
invariant-loop-i l = record {
  low : l.low ≤ l.i;
  marked : IsMarkedUp l.clauses l.trail.entries l.conflict l.marked l.resolved;
  one : HasOneLeft l.base l.from l.i l.marked l.resolved;
}
