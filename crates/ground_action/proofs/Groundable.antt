-- What the laws need of an instance in a setting.
use Rattle.std.proofs.Common.{◌≡◌, ℕ, Bool, true, false, ◌&&◌, List, map, Some}
use Rattle.std.specs.Prelude.{is_some}
use Rattle.std.specs.List.{list_all}
use Rattle.pddl_task.specs.declared.action.Action.{Action}
use Rattle.pddl_task.specs.declared.effect.Effect.{Effect}
use Rattle.pddl_task.specs.declared.effect.Effect.TheVariants as effect
use Rattle.plan_step.specs.State.{PlanState}
use Rattle.plan_step.specs.Meaning.{all_hold, Change, change_of, IsClean, truth_after, value_after}
use Rattle.ground_numbers.specs.declared.named.Named.{Named}
use Rattle.ground_numbers.specs.Numbers.{same, is_listed}
use Rattle.ground_action.specs.Setting.{Setting, valued, same_proposition, value_in}
use Rattle.ground_action.specs.Leaves.{Leaf, fails, unclear, nothing, literal, compared, MoveOutcome, move_ends, move_bent, move, move_of}
use Rattle.ground_action.specs.GroundAction.{leaves_of, moves_of, is_kept, is_numbered}

-- what a step is, aside from the instance
pub record ActionStep (action : Action) (args : List ℕ) (old new : PlanState) : Type 0 where
  pub conditions : all_hold old args action.conds ≡ true
  pub changes : List Change
  pub values : map (change_of old args) action.effs ≡ map Some changes
  pub clean : IsClean changes
  pub truth : (p : ℕ) (args : List ℕ) → new.truth p args ≡ truth_after changes old.truth p args
  pub value : (f : ℕ) (args : List ℕ) → new.value f args ≡ value_after changes f args (old.value f args)

-- ---- linear: no product of two changing functions, and no divisor or factor that changes
abbrev pub is_clear : Leaf → Bool
is_clear fails = true
is_clear unclear = false
is_clear nothing = true
is_clear (literal x sign) = true
is_clear (compared r l c) = true

abbrev pub is_straight : MoveOutcome → Bool
is_straight move_ends = true
is_straight move_bent = false
is_straight (move m) = true

abbrev pub is_linear : Setting → Action → List ℕ → Bool
is_linear set a args = list_all is_clear (leaves_of set a args) && list_all is_straight (map (move_of set args) a.effs)

-- each target of an effect changes
abbrev pub target_changes : Setting → Effect → Bool
target_changes set (effect.Put sign pred terms) = set.changing_pred pred
target_changes set (effect.Change op func terms by) = set.changing_func func

pub record IsGroundable (set : Setting) (a : Action) (args : List ℕ) : Type 0 where
  pub linear : is_linear set a args ≡ true
  pub targets : list_all (target_changes set) a.effs ≡ true
  pub numbered : is_kept set a args ≡ true → is_numbered set (leaves_of set a args) (moves_of set a args) ≡ true
  pub valued : (k : Named) → is_listed same set.funcs k ≡ true → is_some (value_in set.start k) ≡ false → is_listed same_proposition set.propositions (valued k) ≡ true
