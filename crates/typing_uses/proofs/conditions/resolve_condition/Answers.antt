use Rattle.typing_uses.proofs.ExpressionLaws.{reads_same, comparison_parts}
use Rattle.typing_uses.proofs.conditions.resolve_condition.Goals as goal

pub returns-in-Same : goal.returns-in-Same
returns-in-Same c = reads_same _ _ _ _ _ _ _ _ c.in-Same.is c.resolve_equality.ensures

pub resolve_comparison-requires : goal.resolve_comparison-requires
resolve_comparison-requires c =
    let h = comparison_parts _ _ _ _ c.in-Compare.is c.requires in
    record { relation = h.relation; left = h.left; right = h.right }
