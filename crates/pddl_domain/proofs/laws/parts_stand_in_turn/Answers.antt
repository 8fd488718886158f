use Rattle.pddl_domain.proofs.KeyValues.{parts_stand_in_turn}
use Rattle.pddl_domain.proofs.laws.parts_stand_in_turn.Goals as goal

pub returns : goal.returns
returns c = parts_stand_in_turn
