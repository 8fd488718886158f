use Rattle.std.proofs.Common.{subst, sym, Some, IsSome}
use Rattle.formula.specs.Atoms.{IsAtom}
use Rattle.formula.specs.Contents.{Contents}
use Rattle.formula.specs.Equal.{boolean_of}
use Rattle.formula.proofs.Growing.{pushed-boolean}
use Rattle.formula.proofs.Indexing.{index-again}
use Rattle.formula.proofs.formula.Formula.push_again.Goals as goal

pub invariant_of-self-2 : goal.invariant_of-self-2
invariant_of-self-2 c = (
  pushed-boolean _ _ _ _ (Some c.args.a) c.self.invariant.0 (subst (λ (f : Contents). IsAtom f.counts c.args.a) (sym c.self.view_is) c.requires.atom) c.in_ok-push.ensures.ok,
  index-again c.self.inside.index _ _ c.args.a c.self.invariant.1 (subst (λ (f : Contents). IsSome (boolean_of c.args.a f.atoms)) (sym c.self.view_is) c.requires.known) c.in_ok-push.ensures.ok,
)
