use Rattle.pddl_condition.proofs.UnreadNot.{negated_alone, negated_atom_alone}
use Rattle.pddl_condition.proofs.laws.unread_not_is_one_fault.Goals as goal

pub returns : goal.returns
returns c = record { of_conditions = negated_alone; of_atoms = negated_atom_alone }
