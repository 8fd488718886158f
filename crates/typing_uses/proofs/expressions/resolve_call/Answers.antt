use Rattle.pddl_form.proofs.Loops.{read_both, read_as}
use Rattle.typing_uses.proofs.expressions.resolve_call.Goals as goal

pub returns : goal.returns
returns c = read_as _ _ _ _ _ (read_both _ _ _ _ _ _ _ _ c.find_name-number.ensures c.in_ok-args.ensures) c.pair.ensures
