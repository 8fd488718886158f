use Rattle.std.proofs.Common.{◌≡◌, ◌++◌, drop}
use Rattle.std.specs.List.{filter_map}
use Rattle.ground_draft.specs.inside.Lists.{put_at}
use Rattle.ground_draft.proofs.lists.put_atoms.Given as goal

abbrev pub invariant-loop-next : goal.invariant-loop-next
invariant-loop-next l = filter_map (put_at l.want) l.moves ≡ l.numbers ++ filter_map (put_at l.want) (drop l.next-index l.moves)
