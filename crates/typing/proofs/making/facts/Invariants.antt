use Rattle.std.proofs.Common.{◌≡◌, take}
use Rattle.typing_names.specs.Items.{items_of}
use Rattle.typing_names.specs.Problem.{facts_in}
use Rattle.typing.proofs.making.facts.Given as goal

abbrev pub invariant-loop-item : goal.invariant-loop-item
invariant-loop-item l = l.found ≡ facts_in (items_of (take l.item-index l.items))
