use Rattle.typing_names.proofs.DomainLaws.{signature_none, signature_some}
use Rattle.typing_names.proofs.declared.resolve_signature.Goals as goal

pub returns-in_default : goal.returns-in_default
returns-in_default c = signature_none _ c.args.head.now _ _ _ _ _ c.new-table.ensures c.as_slice.ensures c.in_ok-params.ensures.params c.in_default.is

pub returns : goal.returns
returns c = signature_some _ c.args.head.now _ _ _ _ _ _ _ c.new-table.ensures c.as_slice.ensures c.in_ok-params.ensures.params c.in-Some.is c.in_ok-name.ensures
