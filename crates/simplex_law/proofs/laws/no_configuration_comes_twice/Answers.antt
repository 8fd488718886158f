use Rattle.simplex_law.proofs.Traces.{never_back}
use Rattle.simplex_law.proofs.laws.no_configuration_comes_twice.Goals as goal

pub returns : goal.returns
returns c = never_back
