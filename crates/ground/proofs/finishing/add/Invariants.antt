use Rattle.std.proofs.Common.{◌≡◌, ◌++◌, map, take}
use Rattle.ground.specs.inside.Concluding.{mark_at}
use Rattle.ground.proofs.finishing.add.Given as goal

abbrev pub invariant-loop-f : goal.invariant-loop-f
invariant-loop-f l = l.adds ≡ l.initial.adds ++ map (mark_at l.marks.atoms.now l.marks.last) (take l.f-index l.assigns)
