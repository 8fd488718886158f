use Rattle.typing_names.proofs.DomainParts.{signatures_tested, heads_kept}
use Rattle.typing_names.proofs.spaces.declare_signatures.Goals as goal

pub returns-clause-faults : goal.returns-clause-faults
returns-clause-faults c = signatures_tested c.args.d.now _ _ _ _ _ _ _ c.as_slice.ensures c.in_ok-new_preds.ensures.faults c.in_ok-behind.ensures.faults c.beside-all.ensures

pub returns-clause-preds : goal.returns-clause-preds
returns-clause-preds c = heads_kept _ _ _ c.as_slice.ensures c.in_ok-new_preds.ensures.names
