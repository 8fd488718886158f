use Rattle.std.proofs.Common.{◌≡◌, drop}
use Rattle.std.specs.List.{list_all}
use Rattle.ground_action.specs.Work.{cond_has_values}
use Rattle.ground_parts.specs.Forms.{setting_in}
use Rattle.ground_tests.proofs.values.conditions_have_values.Given as goal

abbrev pub invariant-loop-cond : goal.invariant-loop-cond
invariant-loop-cond l = list_all (cond_has_values (setting_in l.given) l.args) l.conds ≡ list_all (cond_has_values (setting_in l.given) l.args) (drop l.cond-index l.conds)
