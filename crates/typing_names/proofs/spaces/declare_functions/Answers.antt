use Rattle.typing_names.proofs.DomainParts.{functions_tested, heads_kept}
use Rattle.typing_names.proofs.spaces.declare_functions.Goals as goal

pub returns-clause-faults : goal.returns-clause-faults
returns-clause-faults c = functions_tested c.args.d.now _ _ _ _ _ _ _ _ c.as_slice.ensures c.as_slice-2.ensures c.in_ok-new_funcs.ensures.faults c.in_ok-new_actions.ensures c.beside-both.ensures

pub returns-clause-names : goal.returns-clause-names
returns-clause-names c = heads_kept _ _ _ c.as_slice.ensures c.in_ok-new_funcs.ensures.names
