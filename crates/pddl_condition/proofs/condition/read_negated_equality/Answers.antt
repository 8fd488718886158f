use Rattle.pddl_condition.proofs.ConditionLaws.{negated_equality_read}
use Rattle.pddl_condition.proofs.condition.read_negated_equality.Goals as goal

pub returns-in_ok-leaves-in-Some : goal.returns-in_ok-leaves-in-Some
returns-in_ok-leaves-in-Some c = negated_equality_read _ _ _ _ _ c.in-Some.ensures c.in_ok-leaves-in-Some.ensures
