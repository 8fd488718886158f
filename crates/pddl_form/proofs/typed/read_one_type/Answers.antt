use Rattle.std.proofs.Common.{ap, ◌∙◌, List, ◌++◌, [], ◌∷◌}
use Rattle.pddl_form.specs.declared.spot.Spot.{Spot}
use Rattle.pddl_form.proofs.Loops.{mapped_none, mapped_some}
use Rattle.pddl_form.proofs.typed.read_one_type.Goals as goal

pub returns-in_default : goal.returns-in_default
returns-in_default c = mapped_none _ _ _ _ _ c.in_ok-name.ensures c.in_default.is

pub returns : goal.returns
returns c = mapped_some _ _ _ _ _ _ _ c.in_ok-name.ensures c.in-Some.is (c.in_ok-push.ensures.ok ∙ ap (λ (xs : List Spot). xs ++ c.in-Some.name ∷ []) c.new-types.ensures)
