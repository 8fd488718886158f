use Rattle.typing_names.proofs.DomainLaws.{object_none, object_some}
use Rattle.typing_names.proofs.declared.resolve_object.Goals as goal

pub returns-in_default : goal.returns-in_default
returns-in_default c = object_none _ c.args.object.now _ _ _ _ c.as_slice.ensures c.find_written_type.ensures c.in_default.is

pub returns : goal.returns
returns c = object_some _ c.args.object.now _ _ _ _ _ _ c.as_slice.ensures c.find_written_type.ensures c.in-Some.is c.in_ok-name.ensures
