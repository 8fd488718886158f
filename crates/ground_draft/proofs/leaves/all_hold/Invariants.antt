use Rattle.std.proofs.Common.{◌≡◌, drop}
use Rattle.std.specs.List.{list_all}
use Rattle.ground_draft.specs.inside.Made.{leaf_holds}
use Rattle.ground_draft.proofs.leaves.all_hold.Given as goal

abbrev pub invariant-loop-leaf : goal.invariant-loop-leaf
invariant-loop-leaf l = list_all leaf_holds l.leaves ≡ list_all leaf_holds (drop l.leaf-index l.leaves)
