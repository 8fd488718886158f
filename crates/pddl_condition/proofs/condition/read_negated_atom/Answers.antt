use Rattle.pddl_condition.proofs.ConditionLaws.{negation_missing, negation_read}
use Rattle.pddl_condition.proofs.condition.read_negated_atom.Goals as goal

pub returns-in_default : goal.returns-in_default
returns-in_default c = negation_missing _ _ _ _ _ _ c.in_default.ensures c.lacking.ensures

pub returns : goal.returns
returns c = negation_read _ _ _ _ _ _ _ _ _ _ _ _ c.in-Some.ensures c.in_ok-call.ensures c.may_follow-fits.ensures c.provided.ensures.made c.provided.ensures.noted
