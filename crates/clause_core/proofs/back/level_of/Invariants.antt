use Rattle.std.proofs.Common.{◌<◌}
use Rattle.clause_core.specs.inside.Levels.{IsAfter}
use Rattle.clause_core.proofs.back.level_of.Given as goal

abbrev pub invariant-loop-lit : goal.invariant-loop-lit
invariant-loop-lit l = record {
  top : 0 < l.top → IsAfter l.trail.entries l.clause l.top;
  keep : 0 < l.keep → IsAfter l.trail.entries l.clause l.keep;
  order : 0 < l.keep → l.keep < l.top;
}
