use Rattle.encode_laws.proofs.MainLaws.{point-exists}
use Rattle.encode_laws.proofs.laws.point_where_reached.Goals as goal

pub returns : goal.returns
returns c = point-exists
