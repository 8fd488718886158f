use Rattle.lin.specs.Linear.{point_of}
use Rattle.pattern.specs.Rolled.{HoldsAtBoth, comparison_ops}
use Rattle.pattern.proofs.Testing.{IsTesting}
use Rattle.pattern.proofs.rolling.all_hold_at_both.Given as goal

abbrev pub invariant-loop-comparison : goal.invariant-loop-comparison
invariant-loop-comparison l = IsTesting (comparison_ops l.incs l.count (point_of l.values)) (HoldsAtBoth l.incs l.count (point_of l.values)) l.comparisons l.comparison-index
