use Rattle.std.proofs.Common.{◌≡◌, map, take}
use Rattle.search.specs.inside.Planning.{part_in}
use Rattle.search.proofs.plan.parts_in.Given as goal

abbrev pub invariant-loop-count : goal.invariant-loop-count
invariant-loop-count l = l.parts.items ≡ map (part_in l.task) (take l.count-index l.word)
