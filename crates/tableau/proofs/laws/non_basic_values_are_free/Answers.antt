use Rattle.tableau.proofs.UniqueLaws.{values_free}
use Rattle.tableau.proofs.laws.non_basic_values_are_free.Goals as goal

pub returns : goal.returns
returns c = values_free
