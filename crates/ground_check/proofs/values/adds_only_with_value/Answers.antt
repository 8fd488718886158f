use Rattle.std.proofs.Common.{sym, ◌∙◌}
use Rattle.ground_check.proofs.Amounts.{in_numbers}
use Rattle.ground_check.proofs.values.adds_only_with_value.Goals as goal

pub returns-then-gives_value : goal.returns-then-gives_value
returns-then-gives_value c e _ = sym (in_numbers c.args.f c.args.a.now.sets) ∙ sym c.gives_value.ensures ∙ e
