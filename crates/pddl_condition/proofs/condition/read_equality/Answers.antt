use Rattle.pddl_condition.proofs.ConditionLaws.{equality_read}
use Rattle.pddl_condition.proofs.condition.read_equality.Goals as goal

pub returns-in_ok-leaves-in-Some : goal.returns-in_ok-leaves-in-Some
returns-in_ok-leaves-in-Some c = equality_read _ _ _ _ _ _ _ _ c.in-Some.ensures c.in_ok-leaves-in-Some.ensures
