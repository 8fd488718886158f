use Rattle.sexpr.proofs.Unique.{one_tree}
use Rattle.sexpr.proofs.laws.spells_one_tree.Goals as goal

pub returns : goal.returns
returns c = one_tree
