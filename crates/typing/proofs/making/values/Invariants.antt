use Rattle.std.proofs.Common.{◌≡◌, take}
use Rattle.typing_names.specs.Items.{items_of}
use Rattle.typing_names.specs.Problem.{values_in}
use Rattle.typing.proofs.making.values.Given as goal

abbrev pub invariant-loop-item : goal.invariant-loop-item
invariant-loop-item l = l.found ≡ values_in (items_of (take l.item-index l.items))
