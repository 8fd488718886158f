use Rattle.typing_linear.specs.Linear.{condition_nonlinearities}
use Rattle.typing_linear.proofs.Noted.{AreNoted}
use Rattle.typing_linear.proofs.linear.judge_conditions.Given as goal

abbrev pub invariant-loop-condition : goal.invariant-loop-condition
invariant-loop-condition l = AreNoted (condition_nonlinearities l.changing) l.conditions l.condition-index l.initial.faults l.faults
