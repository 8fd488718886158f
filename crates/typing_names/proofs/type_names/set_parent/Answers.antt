use Rattle.std.proofs.Common.{refl}
use Rattle.typing_names.proofs.TypeNameLaws.{parent_kept, parent_put}
use Rattle.typing_names.proofs.type_names.set_parent.Goals as goal

pub returns-in_default : goal.returns-in_default
returns-in_default c = parent_kept _ c.args.one.now _ _ _ c.find.ensures.distinct c.as_str.ensures c.find.ensures.found c.in_default.is

pub returns : goal.returns
returns c =
    parent_put _ c.args.one.now _ _ _ _ _ _ _ c.find.ensures.distinct c.as_str.ensures c.find.ensures.found c.in-Some.is c.as_slice.ensures c.number_above-above.ensures refl
