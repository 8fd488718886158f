use Rattle.pddl_form.proofs.PartsLaws.{one_missing, one_read}
use Rattle.pddl_form.proofs.definition.read_only_name.Goals as goal

pub returns-in_default : goal.returns-in_default
returns-in_default c = one_missing _ _ _ _ _ _ c.in_default.ensures c.lacking.ensures

pub returns : goal.returns
returns c = one_read _ _ _ _ _ _ _ _ _ _ _ _ c.in-Some.ensures c.in_ok-name.ensures c.is_empty-none_left.ensures c.provided.ensures.made c.provided.ensures.noted
