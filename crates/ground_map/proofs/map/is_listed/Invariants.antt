use Rattle.std.proofs.Common.{◌≡◌, drop}
use Rattle.ground_map.specs.GroundMap.{same_args}
use Rattle.ground_map.proofs.map.is_listed.Given as goal

abbrev pub invariant-loop-i : goal.invariant-loop-i
invariant-loop-i g l = same_args (g.L.Listed.items l.args) l.key ≡ same_args (drop l.i (g.L.Listed.items l.args)) (drop l.i l.key)
