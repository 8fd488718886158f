use Rattle.typing_uses.specs.Names.{scope_of}
use Rattle.typing_names.proofs.DomainLaws.{action_none, action_some}
use Rattle.typing_names.proofs.actions.resolve_action.Goals as goal

pub returns-in_default : goal.returns-in_default
returns-in_default c = action_none (scope_of c.args.names.now) c.args.action.now _ _ _ c.in_ok-front.ensures c.in_default.is

pub returns : goal.returns
returns c = action_some (scope_of c.args.names.now) c.args.action.now _ _ _ _ _ _ c.in_ok-front.ensures c.in-Some.is c.in_ok-name.ensures
