use Rattle.std.proofs.Common.{refl}
use Rattle.typing_uses.specs.Names.{scope_of}
use Rattle.typing_names.proofs.DomainLaws.{action_parts}
use Rattle.typing_names.proofs.GrammarParts.{action_conditions, action_effects}
use Rattle.typing_names.proofs.actions.resolve_action_parts.Goals as goal

pub returns : goal.returns
returns c =
    action_parts (scope_of c.args.names.now) _ c.args.action.now _ _ _ _ _ _ _ _ _ _ _ _ _ _ c.new-table.ensures c.as_slice.ensures c.as_slice-2.ensures c.as_slice-3.ensures
    c.in_ok-params.ensures.params c.in_ok-params.ensures.names refl c.in_ok-conds.ensures c.in_ok-effs.ensures c.pair.ensures c.pair-2.ensures

pub resolve_conditions-requires : goal.resolve_conditions-requires
resolve_conditions-requires c = action_conditions c.args.action.now _ c.as_slice-2.ensures c.requires

pub resolve_effects-requires : goal.resolve_effects-requires
resolve_effects-requires c = action_effects c.args.action.now _ c.as_slice-3.ensures c.requires
