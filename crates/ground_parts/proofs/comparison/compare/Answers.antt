use Rattle.ground_parts.proofs.Comparing.{compared_is}
use Rattle.ground_parts.proofs.comparison.compare.Goals as goal

pub returns : goal.returns
returns c p q e f = compared_is _ _ _ _ c.compare_forms.ensures p q e f
