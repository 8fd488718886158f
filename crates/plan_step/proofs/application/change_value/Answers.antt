use Rattle.std.proofs.Common.{Option, sym, ap, ◌∙◌}
use Rattle.rational.specs.Fraction.{Fraction}
use Rattle.plan_step.specs.Effects.{changed}
use Rattle.plan_step.proofs.application.change_value.Goals as goal

pub returns-clause-changes : goal.returns-clause-changes
returns-clause-changes c = (c.in_ok-new.new, sym (c.in_ok-new.ensures ∙ ap (λ (v : Option Fraction). changed c.args.op v c.args.by.now) c.value-old.ensures), c.put_value.ensures.put)
