use Rattle.std.proofs.Common.{◌≡◌, ◌<◌, ◌≤◌, ◌-◌, map, true, Err}
use Rattle.plan_step.specs.Held.{state_of}
use Rattle.plan_step.specs.State.{PlanState}
use Rattle.plan_step.specs.Places.{KeepsPlaces}
use Rattle.plan_step.specs.Touches.{DiffersIn, target_of, changes_of}
use Rattle.plan_step.specs.Meaning.{all_hold}
use Rattle.plan_step.specs.Laws.{IsWide}
use Rattle.plan_repeat.specs.Halving.{IsHalved}
use Rattle.plan_repeat.specs.Jump.{tested, hold_after}
use Rattle.plan_repeat.specs.inside.Jumping.{IsBase}
use Rattle.plan_repeat.proofs.jumping.first_failing.Given as goal

abbrev pub invariant-loop-bad : goal.invariant-loop-bad
invariant-loop-bad l = record {
  apart : l.good < l.bad;
  within : l.bad ≤ l.last;
  refuted : IsWide l.fail → ⊥;
  base : (s : PlanState) → IsBase s l.touches l.growths (state_of l.initial.state) → IsBase s l.touches l.growths (state_of l.state);
  holds : (s : PlanState) → IsBase s l.touches l.growths (state_of l.initial.state) → all_hold s l.args l.conds ≡ true → hold_after l.args l.conds (changes_of l.touches) s l.good ≡ true;
  fails : (s : PlanState) → IsBase s l.touches l.growths (state_of l.initial.state) → tested l.args l.conds (changes_of l.touches) s l.last ≡ Err l.initial.fail → tested l.args l.conds (changes_of l.touches) s l.bad ≡ Err l.fail;
  halved : (s : PlanState) → IsBase s l.touches l.growths (state_of l.initial.state) → tested l.args l.conds (changes_of l.touches) s l.last ≡ Err l.initial.fail → IsHalved (hold_after l.args l.conds (changes_of l.touches) s) l.last l.good l.bad;
  differs : DiffersIn (map target_of l.touches) (state_of l.initial.state) (state_of l.state);
  keeps : KeepsPlaces l.initial.state l.state;
}

abbrev pub decreases-loop-bad : goal.decreases-loop-bad
decreases-loop-bad l = l.bad - l.good
