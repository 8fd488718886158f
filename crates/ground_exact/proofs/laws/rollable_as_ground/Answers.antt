use Rattle.ground_exact.proofs.Rolling.{rollable_as}
use Rattle.ground_exact.proofs.laws.rollable_as_ground.Goals as goal

pub returns : goal.returns
returns c task line n k e s t g seen = rollable_as task line n k e s t g seen
