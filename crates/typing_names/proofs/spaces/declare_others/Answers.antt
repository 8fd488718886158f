use Rattle.typing_names.proofs.DomainParts.{others_tested, names_kept}
use Rattle.typing_names.proofs.spaces.declare_others.Goals as goal

pub returns-clause-faults : goal.returns-clause-faults
returns-clause-faults c = others_tested c.args.d.now _ _ _ _ _ _ _ c.as_slice.ensures c.in_ok-new_objects.ensures.faults c.in_ok-later.ensures.faults c.beside-all.ensures

pub returns-clause-objects : goal.returns-clause-objects
returns-clause-objects c = names_kept _ _ _ c.as_slice.ensures c.in_ok-new_objects.ensures.names
