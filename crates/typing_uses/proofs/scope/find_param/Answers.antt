use Rattle.std.proofs.Common.{refl}
use Rattle.pddl_form.proofs.Loops.{mapped_none, mapped_some}
use Rattle.typing_uses.proofs.scope.find_param.Goals as goal

pub returns-in_default : goal.returns-in_default
returns-in_default c = mapped_none _ _ _ _ _ c.find_name.ensures c.in_default.is

pub returns : goal.returns
returns c = mapped_some _ _ _ _ _ _ _ c.find_name.ensures c.in-Some.is refl
