use Rattle.plan_step.specs.Held.{state_of}
use Rattle.plan_repeat.specs.Rolling.{literal_holds}
use Rattle.plan_repeat.proofs.Reading.{AllSoFar}
use Rattle.plan_repeat.proofs.rolling.literals_hold.Given as goal

abbrev pub invariant-loop-cond : goal.invariant-loop-cond
invariant-loop-cond l = AllSoFar (literal_holds (state_of l.state) l.args) l.conds l.cond-index
