use Rattle.rational.proofs.FarkasLaws.{farkas}
use Rattle.rational.proofs.farkas.refuted_rows_hold_nowhere.Goals as goal

pub returns : goal.returns
returns c = farkas
