use Rattle.std.proofs.Common.{◌≡◌, [], drop}
use Rattle.ground_draft.specs.inside.Running.{run}
use Rattle.ground_draft.specs.inside.Lists.{with_literal}
use Rattle.ground_draft.proofs.lists.literals.Given as goal

abbrev pub invariant-loop-leaf : goal.invariant-loop-leaf
invariant-loop-leaf l = run with_literal [] l.leaves ≡ run with_literal l.lits (drop l.leaf-index l.leaves)
