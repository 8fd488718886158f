use Rattle.typing_names.proofs.DomainLaws.{param_none, param_some}
use Rattle.typing_names.proofs.declared.resolve_param.Goals as goal

pub returns-in_default : goal.returns-in_default
returns-in_default c = param_none _ c.args.param.now _ _ _ _ c.as_slice.ensures c.in_ok-written.ensures c.in_default.is

pub returns : goal.returns
returns c = param_some _ c.args.param.now _ _ _ _ _ _ c.as_slice.ensures c.in_ok-written.ensures c.in-Some.is c.in_ok-allowed.ensures
