use Rattle.typing_types.specs.Known.{declared_of}
use Rattle.typing_types.proofs.TypeLaws.{AreUnjudged}
use Rattle.typing_types.proofs.types.judge_actions.Given as goal

abbrev pub invariant-loop-at : goal.invariant-loop-at
invariant-loop-at l = AreUnjudged (declared_of l.known) l.written l.actions l.at l.initial.faults l.faults
