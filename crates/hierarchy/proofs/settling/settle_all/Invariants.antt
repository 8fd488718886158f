use Rattle.std.proofs.Common.{ℕ, ◌<◌}
use Rattle.hierarchy.specs.inside.Entries.{IsKnown, IsPartlyIndexed}
use Rattle.hierarchy.proofs.settling.settle_all.Given as goal

abbrev pub invariant-loop-start : goal.invariant-loop-start
invariant-loop-start l = record {
  partly : IsPartlyIndexed l.parents l.depths l.circles l.jumps;
  known : (t : ℕ) → t < l.start → IsKnown l.circles t;
}
