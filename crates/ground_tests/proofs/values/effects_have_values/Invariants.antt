use Rattle.std.proofs.Common.{◌≡◌, drop}
use Rattle.std.specs.List.{list_all}
use Rattle.ground_action.specs.Work.{effect_has_values}
use Rattle.ground_parts.specs.Forms.{setting_in}
use Rattle.ground_tests.proofs.values.effects_have_values.Given as goal

abbrev pub invariant-loop-effect : goal.invariant-loop-effect
invariant-loop-effect l = list_all (effect_has_values (setting_in l.given) l.args) l.effects ≡ list_all (effect_has_values (setting_in l.given) l.args) (drop l.effect-index l.effects)
