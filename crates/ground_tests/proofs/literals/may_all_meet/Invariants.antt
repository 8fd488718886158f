use Rattle.std.proofs.Common.{◌≡◌, drop}
use Rattle.std.specs.List.{list_all}
use Rattle.ground_action.specs.Work.{literal_may_hold}
use Rattle.ground_parts.specs.Forms.{setting_in}
use Rattle.ground_tests.proofs.literals.may_all_meet.Given as goal

abbrev pub invariant-loop-cond : goal.invariant-loop-cond
invariant-loop-cond l = list_all (literal_may_hold (setting_in l.given) l.args) l.conds ≡ list_all (literal_may_hold (setting_in l.given) l.args) (drop l.cond-index l.conds)
