use Rattle.ground_parts.proofs.Calls.{next_number}
use Rattle.ground_parts.proofs.call.number.Goals as goal

pub returns-in-None : goal.returns-in-None
returns-in-None c = next_number _ _ _ _ c.number.ensures.found c.in-None.is c.len.ensures.value
