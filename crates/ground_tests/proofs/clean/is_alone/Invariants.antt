use Rattle.std.proofs.Common.{◌≡◌, drop, map, not}
use Rattle.std.specs.List.{list_all}
use Rattle.plan_step.specs.Meaning.{clashes}
use Rattle.ground_action.specs.Leaves.{written}
use Rattle.ground_tests.proofs.clean.is_alone.Given as goal

abbrev pub invariant-loop-other : goal.invariant-loop-other
invariant-loop-other l =
    list_all (λ d. not (clashes d (written l.args l.effect))) (map (written l.args) l.later) ≡ list_all (λ d. not (clashes d (written l.args l.effect))) (map (written l.args) (drop l.other-index l.later))
