-- What the leaves of an effect in an instance touch: each has its change, and what the state said before.
use Rattle.std.specs.Prelude.{◌≡◌, ℕ, ◌<◌, Bool, false, ◌&&◌, ◌==◌, bytes_eq, List, map, length, slice_index_or}
use Rattle.std.specs.List.{list_any}
use Rattle.pddl_task.specs.declared.effect.Effect.{Effect}
use Rattle.pddl_task.specs.declared.effect.Effect.TheVariants as effect
use Rattle.plan_step.specs.declared.touches.Touch.{Touch}
use Rattle.plan_step.specs.declared.touches.Touch.TheVariants as touch
use Rattle.plan_step.specs.State.{PlanState}
use Rattle.plan_step.specs.Held.{Held}
use Rattle.plan_step.specs.Places.{HasAtom, HasFunction}
use Rattle.plan_step.specs.Met.{found}
use Rattle.plan_step.specs.Meaning.{objects_of, Change, put, change}
use Rattle.plan_step.specs.Effects.{target_met}

abbrev pub change_in : Touch → Change
change_in (touch.Atom sign pred args old) = put sign pred args
change_in (touch.Function op func args by old) = change op func args by

abbrev pub changes_of : List Touch → List Change
changes_of touches = map change_in touches

-- an atom or a function
pub data Target : Type 0 where
  atom : ℕ → List ℕ → Target
  function : ℕ → List ℕ → Target

abbrev pub target_of : Touch → Target
target_of (touch.Atom sign pred args old) = atom pred args
target_of (touch.Function op func args by old) = function func args

-- what a leaf touches in an instance with these arguments
abbrev pub target_in : List ℕ → Effect → Target
target_in args (effect.Put sign pred terms) = atom pred (objects_of args terms)
target_in args (effect.Change op func terms by) = function func (objects_of args terms)

-- a fact of each touch
abbrev pub EachTouch : (Touch → Type 0) → List Touch → Type 0
EachTouch P touches = (i : ℕ) (t : Touch) → i < length touches → t ≡ slice_index_or touches i t → P t

-- the state says what the touch keeps
abbrev pub IsKept : PlanState → Touch → Type 0
IsKept state (touch.Atom sign pred args old) = old ≡ state.truth pred args
IsKept state (touch.Function op func args by old) = old ≡ state.value func args

-- there is a place for what it touches
abbrev pub HasPlace : Held → Touch → Type 0
HasPlace held (touch.Atom sign pred args old) = HasAtom held pred args
HasPlace held (touch.Function op func args by old) = HasFunction held func args

-- the function has a value where the change needs one
abbrev pub HasTarget : PlanState → Touch → Type 0
HasTarget state (touch.Atom sign pred args old) = Unit {0}
HasTarget state (touch.Function op func args by old) = target_met op (state.value func args) ≡ found tt

-- ---- states that differ at most in some targets

abbrev pub is_atom : ℕ → List ℕ → Target → Bool
is_atom p args (atom q others) = q == p && bytes_eq others args
is_atom p args (function f others) = false

abbrev pub is_function : ℕ → List ℕ → Target → Bool
is_function f args (atom p others) = false
is_function f args (function g others) = g == f && bytes_eq others args

pub record DiffersIn (targets : List Target) (s t : PlanState) : Type 0 where
  pub truth : (p : ℕ) (args : List ℕ) → list_any (is_atom p args) targets ≡ false → t.truth p args ≡ s.truth p args
  pub value : (f : ℕ) (args : List ℕ) → list_any (is_function f args) targets ≡ false → t.value f args ≡ s.value f args
