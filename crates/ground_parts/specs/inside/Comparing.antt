-- Comparisons of the program's parts.
use Rattle.std.specs.Prelude.{List, []}
use Rattle.frac128.specs.declared.operations.Wide.{Wide}
use Rattle.lin.specs.Linear.{Linear, add}
use Rattle.lin.specs.Made.{add_ops}
use Rattle.pddl_task.specs.declared.condition.Rel.{Rel}
use Rattle.pddl_task.specs.declared.condition.Rel.TheVariants as rel
use Rattle.plan_step.specs.Order.{related}
use Rattle.ground_action.specs.Leaves.{comparison_of}
use Rattle.ground_parts.specs.declared.part.Part.{Part}
use Rattle.ground_parts.specs.declared.part.Part.TheVariants.{Constant, Linear as Line}
use Rattle.ground_parts.specs.declared.comparison.Compared.{Compared}
use Rattle.ground_parts.specs.declared.comparison.Compared.TheVariants.{Settled, Left}
use Rattle.ground_parts.specs.inside.Parts.{linear_form, negative_form}

abbrev pub difference_ops : Part → Part → List Wide
difference_ops p q = add_ops (linear_form p) (linear_form (negative_form q))

abbrev pub difference_form : Part → Part → Linear
difference_form p q = add (linear_form p) (linear_form (negative_form q))

abbrev pub sides_ops : Rel → Part → Part → List Wide
sides_ops rel.Lt p q = difference_ops p q
sides_ops rel.Le p q = difference_ops p q
sides_ops rel.Eq p q = difference_ops p q
sides_ops rel.Ge p q = difference_ops q p
sides_ops rel.Gt p q = difference_ops q p

abbrev pub sides_form : Rel → Part → Part → Compared
sides_form rel.Lt p q = Left (difference_form p q) (comparison_of rel.Lt)
sides_form rel.Le p q = Left (difference_form p q) (comparison_of rel.Le)
sides_form rel.Eq p q = Left (difference_form p q) (comparison_of rel.Eq)
sides_form rel.Ge p q = Left (difference_form q p) (comparison_of rel.Ge)
sides_form rel.Gt p q = Left (difference_form q p) (comparison_of rel.Gt)

abbrev pub compared_ops : Rel → Part → Part → List Wide
compared_ops r (Constant a) (Constant b) = []
compared_ops r (Constant a) (Line m) = sides_ops r (Constant a) (Line m)
compared_ops r (Line l) q = sides_ops r (Line l) q

abbrev pub compared_form : Rel → Part → Part → Compared
compared_form r (Constant a) (Constant b) = Settled (related r a b)
compared_form r (Constant a) (Line m) = sides_form r (Constant a) (Line m)
compared_form r (Line l) q = sides_form r (Line l) q
