use Rattle.ground_parts.proofs.Answering.{answered_part}
use Rattle.ground_parts.proofs.expression.part_of.Goals as goal

pub returns : goal.returns
returns c = answered_part _ _ _ _ c.meet.ensures
