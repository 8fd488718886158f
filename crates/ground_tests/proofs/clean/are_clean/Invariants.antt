use Rattle.std.proofs.Common.{◌≡◌, drop, map}
use Rattle.ground_action.specs.Leaves.{written, are_clean}
use Rattle.ground_tests.proofs.clean.are_clean.Given as goal

abbrev pub invariant-loop-i : goal.invariant-loop-i
invariant-loop-i l = are_clean (map (written l.args) l.effects) ≡ are_clean (map (written l.args) (drop l.i l.effects))
