use Rattle.std.proofs.Common.{◌≡◌, take}
use Rattle.typing_uses.specs.Scope.{texts, sighted}
use Rattle.typing_names.proofs.type_names.add_names.Given as goal

abbrev pub invariant-loop-spot : goal.invariant-loop-spot
invariant-loop-spot l = l.table ≡ sighted l.initial.table (texts (take l.spot-index l.spots))
