use Rattle.typing_types.specs.Types.{condition_faults}
use Rattle.typing_types.specs.Known.{declared_of}
use Rattle.typing_linear.proofs.Noted.{AreNoted}
use Rattle.typing_types.proofs.types.judge_conditions.Given as goal

abbrev pub invariant-loop-condition : goal.invariant-loop-condition
invariant-loop-condition l = AreNoted (condition_faults (declared_of l.known)) l.conditions l.condition-index l.initial.faults l.faults
