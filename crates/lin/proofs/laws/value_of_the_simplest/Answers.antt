use Rattle.lin.proofs.ValueLaws.{value_fixed}
use Rattle.lin.proofs.laws.value_of_the_simplest.Goals as goal

pub returns-clause-fixed : goal.returns-clause-fixed
returns-clause-fixed c = value_fixed
