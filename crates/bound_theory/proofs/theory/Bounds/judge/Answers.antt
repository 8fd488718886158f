use Rattle.std.proofs.Common.{◌≡◌, List, length, Option, Some, subst}
use Rattle.std.specs.Option.{IfSome}
use Rattle.rational.specs.Fraction.{Fraction}
use Rattle.bound_theory.proofs.theory.Bounds.judge.Goals as goal

pub returns-in-Some-first_clash : goal.returns-in-Some-first_clash
returns-in-Some-first_clash c = record {
  verdict = c.in_ok-verdict.ensures c.args.full (Some c.in-Some.values);
  sized = subst (λ (o : Option (List Fraction)). IfSome o (λ values. length values ≡ length c.args.self.now.formula.counts)) c.in-Some.is c.in_ok-values.ensures;
}
