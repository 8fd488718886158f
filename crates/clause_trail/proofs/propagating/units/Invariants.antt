use Rattle.std.proofs.Common.{◌≡◌}
use Rattle.clause_trail.specs.Pushing.{IsPushed}
use Rattle.clause_trail.proofs.propagating.units.Given as goal

abbrev pub invariant-units : goal.invariant-units
invariant-units l = record {
  booleans : l.trail.booleans ≡ l.initial.trail.booleans;
  pushed : IsPushed l.clauses l.initial.trail.booleans l.initial.trail.entries l.trail.entries;
}

abbrev pub decreases-units : goal.decreases-units
decreases-units l = l.trail.free
