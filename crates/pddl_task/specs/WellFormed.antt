-- A well-formed task: what linking refuses isn't in it (PDDL 2.1, level 2, with types and with linear conditions and
-- effects). Each task is well formed, whoever made it.
use Rattle.std.specs.Prelude.{◌≡◌, ℕ, ◌<◌, false, List, length, slice_get, Some}
use Rattle.hierarchy.specs.Hierarchy.{parent_of, is_own_ancestor}
use Rattle.pddl_task.specs.declared.declared.TypeName.{TypeName}
use Rattle.pddl_task.specs.declared.start.Given.{Given}
use Rattle.pddl_task.specs.declared.parts.TaskParts.{TaskParts}
use Rattle.pddl_task.specs.Task.{parents}
use Rattle.pddl_task.specs.Numbers.{IsNumbered, IsCountable}
use Rattle.pddl_task.specs.Typed.{IsTyped}
use Rattle.pddl_task.specs.Linear.{IsLinear}

-- `object`, which has the number 0, is above itself, and no other type is its own ancestor
pub record IsTypeTree (types : List TypeName) : Type 0 where
  pub root : parent_of (parents types) 0 ≡ 0
  pub others : (t : ℕ) → 0 < t → t < length types → is_own_ancestor (parents types) t ≡ false

-- no function is given two values at the same arguments
pub record HasOneValueEach (values : List Given) : Type 0 where
  pub agree : (i j : ℕ) (x y : Given) → slice_get values i ≡ Some x → slice_get values j ≡ Some y → x.func ≡ y.func → x.args ≡ y.args → x.value ≡ y.value

-- the facts are the atoms that are true at the start, so none stands with both signs
pub record IsWellFormed (task : TaskParts) : Type 0 where
  pub countable : IsCountable task
  pub numbered : IsNumbered task
  pub types : IsTypeTree task.types
  pub typed : IsTyped task
  pub values : HasOneValueEach task.values
  pub linear : IsLinear task
