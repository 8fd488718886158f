use Rattle.formula.proofs.Refuting.{refuted_nowhere}
use Rattle.formula.proofs.laws.refuted_readings_hold_nowhere.Goals as goal

pub returns : goal.returns
returns c = refuted_nowhere
