use Rattle.formula.proofs.Growing.{pushed-variable}
use Rattle.formula.proofs.formula.Formula.add_var.Goals as goal

pub invariant_of-self-2 : goal.invariant_of-self-2
invariant_of-self-2 c = (pushed-variable _ _ _ _ _ c.self.invariant.0 c.in_ok-push.ensures.ok, c.self.invariant.1)
