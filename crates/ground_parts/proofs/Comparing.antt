-- A comparison of two parts is told by their forms.
use Rattle.std.proofs.Common.{◌≡◌, Bool, true, false, List, Result, refl, sym, ap₂, subst, ◌∙◌}
use Rattle.frac128.specs.declared.operations.Wide.{Wide}
use Rattle.lin.specs.declared.failure.LinFail.{LinFail}
use Rattle.lin.specs.Operations.{AnswersInMemory}
use Rattle.pddl_task.specs.declared.condition.Rel.{Rel}
use Rattle.pddl_task.specs.declared.condition.Rel.TheVariants as rel
use Rattle.plan_step.specs.Order.{related}
use Rattle.ground_action.specs.Parts.{Part, constant, linear}
use Rattle.ground_action.specs.Leaves.{settled, compared_parts}
use Rattle.ground_action.specs.Work.{parts_ops}
use Rattle.ground_parts.specs.declared.part.Part.{Part as Form}
use Rattle.ground_parts.specs.declared.comparison.Compared.{Compared}
use Rattle.ground_parts.specs.declared.comparison.Compared.TheVariants.{Settled}
use Rattle.ground_parts.specs.Forms.{form_of, comparison_made}
use Rattle.ground_parts.specs.inside.Comparing.{compared_ops, compared_form}

settled_is : (b : Bool) → Settled b ≡ comparison_made (settled b)
settled_is true = refl
settled_is false = refl

ops_are : (r : Rel) (p q : Part) → compared_ops r (form_of p) (form_of q) ≡ parts_ops r p q
ops_are r (constant a) (constant b) = refl
ops_are rel.Lt (constant a) (linear s m) = refl
ops_are rel.Le (constant a) (linear s m) = refl
ops_are rel.Eq (constant a) (linear s m) = refl
ops_are rel.Ge (constant a) (linear s m) = refl
ops_are rel.Gt (constant a) (linear s m) = refl
ops_are rel.Lt (linear r l) (constant b) = refl
ops_are rel.Le (linear r l) (constant b) = refl
ops_are rel.Eq (linear r l) (constant b) = refl
ops_are rel.Ge (linear r l) (constant b) = refl
ops_are rel.Gt (linear r l) (constant b) = refl
ops_are rel.Lt (linear r l) (linear s m) = refl
ops_are rel.Le (linear r l) (linear s m) = refl
ops_are rel.Eq (linear r l) (linear s m) = refl
ops_are rel.Ge (linear r l) (linear s m) = refl
ops_are rel.Gt (linear r l) (linear s m) = refl

form_is : (r : Rel) (p q : Part) → compared_form r (form_of p) (form_of q) ≡ comparison_made (compared_parts r p q)
form_is r (constant a) (constant b) = settled_is (related r a b)
form_is rel.Lt (constant a) (linear s m) = refl
form_is rel.Le (constant a) (linear s m) = refl
form_is rel.Eq (constant a) (linear s m) = refl
form_is rel.Ge (constant a) (linear s m) = refl
form_is rel.Gt (constant a) (linear s m) = refl
form_is rel.Lt (linear r l) (constant b) = refl
form_is rel.Le (linear r l) (constant b) = refl
form_is rel.Eq (linear r l) (constant b) = refl
form_is rel.Ge (linear r l) (constant b) = refl
form_is rel.Gt (linear r l) (constant b) = refl
form_is rel.Lt (linear r l) (linear s m) = refl
form_is rel.Le (linear r l) (linear s m) = refl
form_is rel.Eq (linear r l) (linear s m) = refl
form_is rel.Ge (linear r l) (linear s m) = refl
form_is rel.Gt (linear r l) (linear s m) = refl

pub compared_is : (r : Rel) (left right : Form) (answer : Result Compared LinFail) → AnswersInMemory (compared_ops r left right) (compared_form r left right) answer
    → (p q : Part) → form_of p ≡ left → form_of q ≡ right → AnswersInMemory (parts_ops r p q) (comparison_made (compared_parts r p q)) answer
compared_is r left right answer h p q e f =
    let P : List Wide → Type 0 = λ ops. AnswersInMemory ops (comparison_made (compared_parts r p q)) answer in
    let Q : Compared → Type 0 = λ c. AnswersInMemory (compared_ops r left right) c answer in
    subst P (ap₂ (compared_ops r) (sym e) (sym f) ∙ ops_are r p q) (subst Q (ap₂ (compared_form r) (sym e) (sym f) ∙ form_is r p q) h)
