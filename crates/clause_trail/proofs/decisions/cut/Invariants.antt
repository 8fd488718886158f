use Rattle.std.proofs.Common.{◌≡◌, ◌≤◌, length, take}
use Rattle.clause_trail.proofs.decisions.cut.Given as goal

abbrev pub invariant-loop-trail : goal.invariant-loop-trail
invariant-loop-trail l = record {
  entries : l.trail.entries ≡ take (length l.trail.entries) l.initial.trail.entries;
  long : l.n ≤ length l.trail.entries;
  short : length l.trail.entries ≤ length l.initial.trail.entries;
  booleans : l.trail.booleans ≡ l.initial.trail.booleans;
}

abbrev pub decreases-loop-trail : goal.decreases-loop-trail
decreases-loop-trail l = length l.trail.entries
