use Rattle.pddl_form.proofs.Loops.{mapped_none, mapped_some}
use Rattle.pddl_condition.proofs.condition.read_literal.Goals as goal

pub returns-in_default : goal.returns-in_default
returns-in_default c = mapped_none _ _ _ _ _ c.in_ok-call.ensures c.in_default.is

pub returns : goal.returns
returns c = mapped_some _ _ _ _ _ _ _ c.in_ok-call.ensures c.in-Some.is c.in_ok-leaves.ensures
