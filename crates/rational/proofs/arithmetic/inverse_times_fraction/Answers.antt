use Rattle.rational.proofs.Division.{mul-inv}
use Rattle.rational.proofs.arithmetic.inverse_times_fraction.Goals as goal

pub returns : goal.returns
returns c = mul-inv
