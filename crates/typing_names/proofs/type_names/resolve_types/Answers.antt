use Rattle.std.proofs.Common.{◌∙◌}
use Rattle.typing_names.proofs.TypeNameLaws.{are_types, are_parents, is_hierarchy}
use Rattle.typing_names.proofs.type_names.resolve_types.Goals as goal

pub returns-clause-types : goal.returns-clause-types
returns-clause-types c = are_types _ _ _ _ c.requires c.in_ok-above.ensures.above c.in_ok-named.ensures.names (c.in_ok-named.ensures.above ∙ c.deref.ensures.value)

pub returns-clause-above : goal.returns-clause-above
returns-clause-above c = c.in_ok-hierarchy.ensures ∙ are_parents _ _ _ c.requires c.in_ok-above.ensures.above

pub new-requires-clause-hierarchy : goal.new-requires-clause-hierarchy
new-requires-clause-hierarchy c = is_hierarchy _ _ _ c.in_ok-above.ensures.above
