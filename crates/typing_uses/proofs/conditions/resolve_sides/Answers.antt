use Rattle.pddl_form.proofs.Loops.{read_both, read_as}
use Rattle.typing_uses.proofs.conditions.resolve_sides.Goals as goal

pub returns : goal.returns
returns c = read_as _ _ _ _ _ (read_both _ _ _ _ _ _ _ _ c.in_ok-left.ensures c.in_ok-right.ensures) c.pair.ensures
