use Rattle.typing_names.proofs.DomainParts.{domain_tested, domain_tables}
use Rattle.typing_names.proofs.spaces.declare_domain.Goals as goal

pub returns-clause-faults : goal.returns-clause-faults
returns-clause-faults c = domain_tested c.args.d.now _ _ _ _ _ _ _ c.as_slice.ensures c.in_ok-new_types.ensures.faults c.in_ok-later.ensures.faults c.beside-all.ensures

pub returns-clause-names : goal.returns-clause-names
returns-clause-names c =
    domain_tables c.args.d.now _ _ _ _ _ c.as_slice.ensures c.in_ok-new_types.ensures.names c.in_ok-later.ensures.objects c.in_ok-later.ensures.preds c.in_ok-later.ensures.funcs
