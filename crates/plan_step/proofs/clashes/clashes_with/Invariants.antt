use Rattle.std.proofs.Common.{◌≡◌, false, take}
use Rattle.std.specs.List.{list_any}
use Rattle.plan_step.specs.Meaning.{clashes}
use Rattle.plan_step.specs.Touches.{change_in, changes_of}
use Rattle.plan_step.proofs.clashes.clashes_with.Given as goal

abbrev pub invariant-loop-other : goal.invariant-loop-other
invariant-loop-other l = list_any (clashes (change_in l.touch)) (changes_of (take l.other-index l.front)) ≡ false
