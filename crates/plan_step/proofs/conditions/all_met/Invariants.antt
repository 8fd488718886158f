use Rattle.std.proofs.Common.{◌≡◌, drop}
use Rattle.plan_step.specs.Held.{state_of}
use Rattle.plan_step.specs.Conditions.{all_met, leaves_met}
use Rattle.plan_step.proofs.conditions.all_met.Given as goal

abbrev pub invariant-loop-cond : goal.invariant-loop-cond
invariant-loop-cond l = all_met (leaves_met (state_of l.state) l.args l.conds) ≡ all_met (leaves_met (state_of l.state) l.args (drop l.cond-index l.conds))
