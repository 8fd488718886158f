use Rattle.pddl_form.proofs.PartsLaws.{two_missing, second_missing, two_read}
use Rattle.pddl_condition.proofs.condition.read_sides.Goals as goal

pub returns-in_default : goal.returns-in_default
returns-in_default c = two_missing _ _ _ _ _ _ _ c.in_default.ensures c.lacking.ensures

pub returns-in_default-parted : goal.returns-in_default-parted
returns-in_default-parted c = second_missing _ _ _ _ _ _ _ _ _ _ _ c.in-Some.ensures c.in_default-parted.ensures c.in_ok-left.ensures c.lacking-in_default-parted.ensures

pub returns : goal.returns
returns c = two_read _ _ _ _ _ _ _ _ _ _ _ _ _ _ _ _ _ _ c.in-Some.ensures c.in-Some-parted.ensures c.in_ok-left.ensures c.in_ok-right.ensures c.pair-sides.ensures c.is_empty-none_left.ensures c.provided.ensures.made c.provided.ensures.noted
