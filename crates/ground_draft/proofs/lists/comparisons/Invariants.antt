use Rattle.std.proofs.Common.{[]}
use Rattle.ground_draft.specs.inside.Lists.{with_comparison, leaf_ops}
use Rattle.ground_draft.proofs.Loops.{IsRunning}
use Rattle.ground_draft.proofs.lists.comparisons.Given as goal

abbrev pub invariant-loop-leaf : goal.invariant-loop-leaf
invariant-loop-leaf l = IsRunning with_comparison (λ cmps leaf. leaf_ops leaf) [] l.leaves l.cmps l.leaf-index
