use Rattle.typing_types.specs.Known.{declared_of}
use Rattle.typing_types.proofs.Fitting.{AreLeft}
use Rattle.typing_types.proofs.fit.judge_arguments.Given as goal

abbrev pub invariant-loop-at : goal.invariant-loop-at
invariant-loop-at l = AreLeft (declared_of l.known) l.params l.args l.at l.initial.faults l.faults
