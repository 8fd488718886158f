use Rattle.pddl_task.specs.Task.{is_changing_func}
use Rattle.plan_repeat.specs.Rolling.{is_even}
use Rattle.plan_repeat.proofs.Reading.{AllSoFar}
use Rattle.plan_repeat.proofs.rolling.are_even.Given as goal

abbrev pub invariant-loop-effect : goal.invariant-loop-effect
invariant-loop-effect l = AllSoFar (is_even (is_changing_func l.task.actions)) l.effs l.effect-index
