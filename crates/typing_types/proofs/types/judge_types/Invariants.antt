use Rattle.typing_types.specs.Types.{type_faults}
use Rattle.typing_linear.proofs.Noted.{AreNoted}
use Rattle.typing_types.proofs.types.judge_types.Given as goal

abbrev pub invariant-loop-one : goal.invariant-loop-one
invariant-loop-one l = AreNoted (type_faults l.table l.hierarchy) l.listed l.one-index l.initial.faults l.faults
