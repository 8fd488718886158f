use Rattle.std.proofs.Common.{◌≡◌, ◌++◌, drop}
use Rattle.std.specs.List.{filter_map}
use Rattle.ground_draft.specs.inside.Lists.{changed_at}
use Rattle.ground_draft.proofs.lists.changed.Given as goal

abbrev pub invariant-loop-next : goal.invariant-loop-next
invariant-loop-next l = filter_map changed_at l.moves ≡ l.numbers ++ filter_map changed_at (drop l.next-index l.moves)
