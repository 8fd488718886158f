use Rattle.typing_linear.specs.Linear.{action_nonlinearities}
use Rattle.typing_linear.proofs.Noted.{AreNoted}
use Rattle.typing_linear.proofs.linear.judge_actions.Given as goal

abbrev pub invariant-loop-action : goal.invariant-loop-action
invariant-loop-action l = AreNoted (action_nonlinearities l.changing) l.actions l.action-index l.initial.faults l.faults
