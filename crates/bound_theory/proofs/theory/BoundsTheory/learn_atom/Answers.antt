use Rattle.std.proofs.Common.{arith, ap, sym, subst, ◌∙◌, length}
use Rattle.formula.specs.Contents.{Contents}
use Rattle.theory_law.specs.Splits.{CanSplit}
use Rattle.asserted.specs.Events.{Events}
use Rattle.bound_theory.proofs.theory.BoundsTheory.learn_atom.Goals as goal

pub add_split-requires-clause-whole : goal.add_split-requires-clause-whole
add_split-requires-clause-whole c = (c.args.self.now.splits c.in-Some.cut c.in-Some.is).integral

pub invariant_of-self-in-Err-1 : goal.invariant_of-self-in-Err-1
invariant_of-self-in-Err-1 c =
    let same = c.in-Err.ensures.same in
    let more = c.in_ok-add_boolean.ensures.ok in
    record {
      roomy = omega (arith, ap (λ (f : Contents). length f.atoms) same, ap (λ (e : Events). e.booleans) more, c.args.self.now.roomy);
      sized = c.args.self.now.sized ∙ ap (λ (f : Contents). length f.counts) (sym same);
      splits = λ x e. subst (λ (f : Contents). CanSplit f.counts x.0 x.1) (sym same) (c.args.self.now.splits x e);
    }
