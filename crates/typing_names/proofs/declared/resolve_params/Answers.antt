use Rattle.typing_names.proofs.Declaring.{read_beside}
use Rattle.typing_names.proofs.declared.resolve_params.Goals as goal

pub returns-clause-params : goal.returns-clause-params
returns-clause-params c = read_beside _ _ _ _ _ _ _ _ c.in_ok-new.ensures.faults c.in_ok-found.ensures c.beside.ensures
