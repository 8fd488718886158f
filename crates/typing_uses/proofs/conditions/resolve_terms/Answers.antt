use Rattle.pddl_form.proofs.Loops.{read_both, read_as}
use Rattle.typing_uses.proofs.conditions.resolve_terms.Goals as goal

pub returns : goal.returns
returns c = read_as _ _ _ _ _ (read_both _ _ _ _ _ _ _ _ c.find_term-left.ensures c.find_term-right.ensures) c.pair.ensures
