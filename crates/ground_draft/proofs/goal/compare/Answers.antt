use Rattle.std.proofs.Common.{sym, ◌∙◌}
use Rattle.ground_draft.specs.inside.Goal.{sides_target, sides_target_ops}
use Rattle.ground_draft.proofs.Then.{some_answers}
use Rattle.ground_draft.proofs.goal.compare.Goals as goal

pub returns : goal.returns
returns c = some_answers sides_target_ops sides_target _ c.in-Some.leaf _ c.compared_leaf.result (sym c.in-Some.is ∙ c.in_ok-leaf.ensures.1) c.in_ok-leaf.ensures.0 c.compared_leaf.ensures
