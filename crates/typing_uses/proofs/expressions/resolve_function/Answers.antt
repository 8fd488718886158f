use Rattle.std.proofs.Common.{refl}
use Rattle.typing_uses.proofs.ExpressionLaws.{paired_none, paired_some}
use Rattle.typing_uses.proofs.expressions.resolve_function.Goals as goal

pub returns-in_default : goal.returns-in_default
returns-in_default c = paired_none _ _ _ _ _ _ c.in_ok-func.ensures c.in_default.is

pub returns : goal.returns
returns c = paired_some _ _ _ _ _ _ _ _ _ c.in_ok-func.ensures c.in-Some.is refl
