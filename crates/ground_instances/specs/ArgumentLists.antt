-- The argument lists of an action that grounding looks at, in rising order: all lists of as many objects as there are
-- parameters, without those that do not fit the types, and without those for which a static literal or an equality of
-- objects doesn't hold (this project). A predicate is static where no effect of the task names it.
use Rattle.std.specs.Prelude.{◌≡◌, ℕ, zero, suc, ◌+◌, Bool, true, false, ◌&&◌, ◌||◌, ◌==◌, nat_lt, List, [], ◌∷◌, map, filter, length, if◌then◌else◌}
use Rattle.std.specs.List.{list_all, flat_map}
use Rattle.pddl_task.specs.declared.action.Action.{Action}
use Rattle.pddl_task.specs.declared.condition.Cond.{Cond}
use Rattle.pddl_task.specs.declared.condition.Cond.TheVariants as cond
use Rattle.pddl_task.specs.declared.parts.TaskParts.{TaskParts}
use Rattle.pddl_task.specs.Task.{is_changing_pred}
use Rattle.plan_step.specs.State.{initial}
use Rattle.plan_step.specs.Meaning.{object_of, objects_of, signed, all_fit}

-- ---- all lists, in rising order

-- so many numbers, from one on
abbrev pub count_from : ℕ → ℕ → List ℕ
count_from low zero = []
count_from low (suc m) = low ∷ count_from (low + 1) m

-- each list of so many numbers below n: by the first of them, then by the second, and so on
abbrev pub lists_below : ℕ → ℕ → List (List ℕ)
lists_below n zero = [] ∷ []
lists_below n (suc k) = flat_map (λ o. map (λ args. o ∷ args) (lists_below n k)) (count_from 0 n)

-- ---- those that are left

-- a literal over a static predicate holds at the start, and an equality by its objects
abbrev pub static_met : TaskParts → List ℕ → Cond → Bool
static_met task args (cond.Lit sign pred terms) = is_changing_pred task.actions pred || signed sign ((initial task).truth pred (objects_of args terms))
static_met task args (cond.Same sign left right) = signed sign (object_of args left == object_of args right)
static_met task args (cond.Compare rel left right) = true

abbrev pub suits : TaskParts → Action → List ℕ → Bool
suits task a args = all_fit task a.params args && list_all (static_met task args) a.conds

abbrev pub argument_lists : TaskParts → Action → List (List ℕ)
argument_lists task a = filter (suits task a) (lists_below (length task.objects) (length a.params))

-- ---- one after another

-- the second list is above the first: it has the greater number where they differ first
abbrev pub is_above : List ℕ → List ℕ → Bool
is_above [] others = false
is_above (x ∷ xs) [] = false
is_above (x ∷ xs) (y ∷ ys) = nat_lt x y || (x == y && is_above xs ys)

-- the argument lists above one
abbrev pub lists_above : TaskParts → Action → List ℕ → List (List ℕ)
lists_above task a args = filter (is_above args) (argument_lists task a)

-- the first argument list, if there is one
pub record IsFirst (task : TaskParts) (a : Action) (found : Bool) (new : List ℕ) : Type 0 where
  pub lists : argument_lists task a ≡ (if found then new ∷ lists_above task a new else [])
  pub suiting : found ≡ true → suits task a new ≡ true

-- the one after another
pub record IsNext (task : TaskParts) (a : Action) (old : List ℕ) (found : Bool) (new : List ℕ) : Type 0 where
  pub lists : lists_above task a old ≡ (if found then new ∷ lists_above task a new else [])
  pub suiting : found ≡ true → suits task a new ≡ true
