use Rattle.ground_walk.proofs.NumberLaws.{kept_numbered}
use Rattle.ground_walk.proofs.laws.kept_instances_are_numbered.Goals as goal

pub returns : goal.returns
returns c = kept_numbered
