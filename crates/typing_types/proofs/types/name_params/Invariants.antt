use Rattle.typing_types.proofs.TypeLaws.{AreUnnamed}
use Rattle.typing_types.proofs.types.name_params.Given as goal

abbrev pub invariant-loop-param : goal.invariant-loop-param
invariant-loop-param l = AreUnnamed l.params l.param-index l.initial.table l.table
