use Rattle.encode_laws.proofs.MainLaws.{point-plan}
use Rattle.encode_laws.proofs.laws.point_spells_plan.Goals as goal

pub returns : goal.returns
returns c = point-plan
