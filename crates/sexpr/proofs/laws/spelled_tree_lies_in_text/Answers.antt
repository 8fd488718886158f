use Rattle.sexpr.proofs.Order.{lies_in_text}
use Rattle.sexpr.proofs.laws.spelled_tree_lies_in_text.Goals as goal

pub returns : goal.returns
returns c = lies_in_text
