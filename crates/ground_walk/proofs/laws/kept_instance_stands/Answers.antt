use Rattle.ground_walk.proofs.StandingLaws.{kept_stands}
use Rattle.ground_walk.proofs.laws.kept_instance_stands.Goals as goal

pub returns : goal.returns
returns c = kept_stands
