use Rattle.typing_uses.proofs.ExpressionLaws.{change_parts}
use Rattle.typing_uses.proofs.effects.resolve_effect.Goals as goal

pub resolve_change-requires : goal.resolve_change-requires
resolve_change-requires c =
    let h = change_parts _ _ _ _ _ c.in-Change.is c.requires in
    record { operator = h.operator; by = h.by }
