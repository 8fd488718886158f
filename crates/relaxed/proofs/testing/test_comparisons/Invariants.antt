use Rattle.std.proofs.Common.{Bool, true, drop, Result}
use Rattle.relaxed.specs.declared.failure.LayerFail.{LayerFail}
use Rattle.relaxed.specs.inside.Kept.{layer_of}
use Rattle.relaxed.proofs.PartSteps.{Left}
use Rattle.relaxed.proofs.testing.test_comparisons.Given as goal

-- what the comparisons that are left answer with the tests so far is the answer
abbrev pub invariant-loop-i : goal.invariant-loop-i
invariant-loop-i l = (r : Result Bool LayerFail) → Left (layer_of l.table) l.layer l.action l.i l.all_hold (drop l.i l.cmps) r
    → Left (layer_of l.table) l.layer l.action 0 true l.cmps r
