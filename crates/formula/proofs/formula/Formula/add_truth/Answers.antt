use Rattle.formula.proofs.Growing.{pushed-boolean}
use Rattle.formula.proofs.Indexing.{index-truth}
use Rattle.formula.proofs.formula.Formula.add_truth.Goals as goal

pub invariant_of-self-2 : goal.invariant_of-self-2
invariant_of-self-2 c =
    (pushed-boolean _ _ _ _ _ c.self.invariant.0 tt c.in_ok-push.ensures.ok, index-truth c.self.inside.index _ _ c.self.invariant.1 c.in_ok-push.ensures.ok)
