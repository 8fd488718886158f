use Rattle.formula.proofs.Truths.{met_iff}
use Rattle.formula.proofs.laws.clauses_are_met_by_true_literals.Goals as goal

pub returns : goal.returns
returns c = met_iff
