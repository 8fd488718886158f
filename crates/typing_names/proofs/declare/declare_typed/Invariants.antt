use Rattle.typing_names.proofs.Declaring.{AreDeclared}
use Rattle.typing_names.proofs.declare.declare_typed.Given as goal

abbrev pub invariant-loop-item : goal.invariant-loop-item
invariant-loop-item l = AreDeclared (λ x. x.name) l.items l.item-index l.initial.table l.table l.initial.faults l.faults l.found
