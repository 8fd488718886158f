use Rattle.typing_names.proofs.TypeNameLaws.{AreParents}
use Rattle.typing_names.proofs.type_names.find_parents.Given as goal

abbrev pub invariant-loop-passed : goal.invariant-loop-passed
invariant-loop-passed l = AreParents l.types l.passed l.table l.parents.items
