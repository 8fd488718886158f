use Rattle.std.proofs.Common.{◌≡◌, drop}
use Rattle.plan_step.specs.Held.{state_of}
use Rattle.plan_step.specs.Conditions.{first_unmet, leaves_met}
use Rattle.plan_step.proofs.conditions.test_conditions.Given as goal

abbrev pub invariant-loop-i : goal.invariant-loop-i
invariant-loop-i l = first_unmet 0 (leaves_met (state_of l.state) l.args l.conds) ≡ first_unmet l.i (leaves_met (state_of l.state) l.args (drop l.i l.conds))
