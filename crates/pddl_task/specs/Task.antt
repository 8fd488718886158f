-- Words on the parts of a task (PDDL 2.1, level 2).
use Rattle.std.specs.Prelude.{◌≡◌, ℕ, ◌<◌, Bool, false, ◌==◌, List, map, length, slice_index_or}
use Rattle.std.specs.List.{list_any}
use Rattle.pddl_task.specs.declared.declared.TypeName.{TypeName}
use Rattle.pddl_task.specs.declared.action.Action.{Action}
use Rattle.pddl_task.specs.declared.effect.Effect.{Effect}
use Rattle.pddl_task.specs.declared.effect.Effect.TheVariants as effect

-- the types above each type
abbrev pub parents : List TypeName → List ℕ
parents types = map (λ t. t.parent) types

abbrev pub names_of : List TypeName → List (List ℕ)
names_of types = map (λ t. t.name) types

-- ---- changing predicates and functions

abbrev pub changes_pred : ℕ → Effect → Bool
changes_pred p (effect.Put pos pred args) = pred == p
changes_pred p (effect.Change op func args by) = false

abbrev pub changes_func : ℕ → Effect → Bool
changes_func f (effect.Put pos pred args) = false
changes_func f (effect.Change op func args by) = func == f

-- it is the target of an effect of some action; else it is static
abbrev pub is_changing_pred : List Action → ℕ → Bool
is_changing_pred actions p = list_any (λ a. list_any (changes_pred p) a.effs) actions

abbrev pub is_changing_func : List Action → ℕ → Bool
is_changing_func actions f = list_any (λ a. list_any (changes_func f) a.effs) actions

-- a flag for each of so many things, which says what is true of it
pub record AreFlags (flags : List Bool) (is_so : ℕ → Bool) (count : ℕ) : Type 0 where
  pub count_is : length flags ≡ count
  pub each : (k : ℕ) → k < count → slice_index_or flags k false ≡ is_so k
