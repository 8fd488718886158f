use Rattle.std.proofs.Common.{◌≡◌, take}
use Rattle.pddl_form.proofs.typed.copy_spots.Given as goal

abbrev pub invariant-loop-spot : goal.invariant-loop-spot
invariant-loop-spot l = l.found ≡ take l.spot-index l.spots
