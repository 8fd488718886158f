use Rattle.std.proofs.Common.{◌≡◌, ◌++◌, drop}
use Rattle.std.specs.List.{filter_map}
use Rattle.ground_draft.specs.inside.Lists.{unless_in}
use Rattle.ground_draft.proofs.lists.without.Given as goal

abbrev pub invariant-loop-n : goal.invariant-loop-n
invariant-loop-n l = filter_map (unless_in l.others) l.numbers ≡ l.left ++ filter_map (unless_in l.others) (drop l.n-index l.numbers)
