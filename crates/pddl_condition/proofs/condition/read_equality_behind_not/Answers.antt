use Rattle.pddl_condition.proofs.ConditionLaws.{negated_atom_equality_read}
use Rattle.pddl_condition.proofs.condition.read_equality_behind_not.Goals as goal

pub returns-in-Some : goal.returns-in-Some
returns-in-Some c = negated_atom_equality_read _ _ _ _ _ _ c.in-Some.ensures c.misshapen.ensures
