use Rattle.std.proofs.Common.{subst}
use Rattle.rational.specs.Fraction.{Fraction}
use Rattle.frac128.specs.Operations.{Answers}
use Rattle.frac128.specs.declared.operations.Op.TheVariants.{Sub}
use Rattle.pattern.proofs.rolling.before_last.Goals as goal

pub returns : goal.returns
returns c = subst (λ (x : Fraction). Answers Sub c.args.count.now x c.sub.result) c.one.ensures c.sub.ensures
