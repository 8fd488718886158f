use Rattle.plan_step.specs.Held.{state_of}
use Rattle.plan_judge.proofs.Parts.{AreMade}
use Rattle.plan_judge.proofs.judging.find_outcome.Given as goal

abbrev pub invariant-loop-i : goal.invariant-loop-i
invariant-loop-i l = AreMade l.task l.plan l.i (state_of l.state)
