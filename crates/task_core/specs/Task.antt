-- Ground tasks, what is promised of one, and which functions have a value in a state.
use Rattle.std.specs.Prelude.{◌≡◌, ◌≢◌, ℕ, zero, suc, ◌-◌, ◌<◌, ◌≤◌, Bool, true, false, ◌&&◌, nat_eq, List, [], ◌∷◌, ◌++◌, map, length, pos, Option, Some, None, unwrap_or, slice_index_or}
use Rattle.std.specs.List.{All, flat_map, list_any}
use Rattle.std.specs.List.Sorted.{IsStrictlyIncreasing}
use Rattle.rational.specs.Fraction.{Fraction, whole}
use Rattle.lin.specs.Linear.{Linear}
use Rattle.task_core.specs.declared.action.GAction.{GAction}
use Rattle.task_core.specs.State.{State}
use Rattle.task_core.specs.Step.{is_in}

-- the truth of each atom and the value of each function at the start, the actions, and the goal
pub record GroundParts : Type 0 where
  pub atoms : List Bool
  pub funcs : List (Option Fraction)
  pub actions : List GAction
  pub goal : GAction

abbrev pub value_at_start : GroundParts → ℕ → Option Fraction
value_at_start task f = slice_index_or task.funcs f None

-- the state at the start, in which a function without a value has the fraction 0
abbrev pub start : GroundParts → State
start task = record {
  truth = λ p. slice_index_or task.atoms p false;
  value = λ f. unwrap_or (value_at_start task f) (whole (pos 0));
}

-- the action with a number; where there is none, one that does nothing
abbrev pub idle : GAction
idle = record { lits = []; cmps = []; adds = []; dels = []; incs = []; sets = [] }

abbrev pub action_at : GroundParts → ℕ → GAction
action_at task n = slice_index_or task.actions n idle

-- ---- the atoms 'has a value'

-- how many functions have no value at the start
abbrev pub missing : List (Option Fraction) → ℕ
missing [] = 0
missing (None ∷ more) = suc (missing more)
missing (Some x ∷ more) = missing more

-- each of them has an atom that says whether it has a value: these are the last atoms, in order of function number
abbrev pub value_atom_from : ℕ → List (Option Fraction) → ℕ → Option ℕ
value_atom_from p [] f = None
value_atom_from p (None ∷ more) zero = Some p
value_atom_from p (None ∷ more) (suc f) = value_atom_from (suc p) more f
value_atom_from p (Some x ∷ more) zero = None
value_atom_from p (Some x ∷ more) (suc f) = value_atom_from p more f

abbrev pub value_atom : GroundParts → ℕ → Option ℕ
value_atom task f = value_atom_from (length task.atoms - missing task.funcs) task.funcs f

-- a function has a value in a state from the start on, or where its atom says so
abbrev pub is_valued : Option ℕ → State → Bool
is_valued None s = true
is_valued (Some p) s = s.truth p

abbrev pub has_value : GroundParts → State → ℕ → Bool
has_value task s f = is_valued (value_atom task f) s

-- ---- what an action reads and changes, by number

abbrev pub numbers : {X : Type 0} → List (ℕ × X) → List ℕ
numbers ps = map (λ p. p.0) ps

abbrev pub variables : Linear → List ℕ
variables l = numbers l.terms

-- the functions that it reads: in comparisons, in new values, and as targets of increments
abbrev pub read_by : GAction → List ℕ
read_by a = flat_map (λ c. variables c.0) a.cmps ++ (flat_map (λ s. variables s.1) a.sets ++ numbers a.incs)

-- it has the literal that the atom is true
abbrev pub asks : ℕ → GAction → Bool
asks p a = list_any (λ l. nat_eq l.0 p && l.1) a.lits

-- each function that the action reads has a value in the state
abbrev pub IsDefined : GroundParts → GAction → State → Type 0
IsDefined task a s = All (λ f. has_value task s f ≡ true) (read_by a)

-- ---- what is promised

-- each number is that of an atom or of a function of the task
pub record IsNumbered (task : GroundParts) (a : GAction) : Type 0 where
  pub lits : All (λ p. p < length task.atoms) (numbers a.lits)
  pub adds : All (λ p. p < length task.atoms) a.adds
  pub dels : All (λ p. p < length task.atoms) a.dels
  pub reads : All (λ f. f < length task.funcs) (read_by a)
  pub sets : All (λ f. f < length task.funcs) (numbers a.sets)

-- the lists of changes rise, no amount is 0, and nothing is changed in two ways
pub record IsOrderly (a : GAction) : Type 0 where
  pub adds : IsStrictlyIncreasing a.adds
  pub dels : IsStrictlyIncreasing a.dels
  pub incs : IsStrictlyIncreasing (numbers a.incs)
  pub sets : IsStrictlyIncreasing (numbers a.sets)
  pub amounts : All (λ i. i.1 ≢ whole (pos 0)) a.incs
  pub atoms_apart : All (λ p. is_in p a.dels ≡ false) a.adds
  pub funcs_apart : All (λ f. is_in f (numbers a.incs) ≡ false) (numbers a.sets)

-- p is the atom 'has a value' of the function f: who reads the function asks for it, nobody deletes it, and who adds it gives
-- the function a value
pub record TellsOf (f p : ℕ) (a : GAction) : Type 0 where
  pub asked : is_in f (read_by a) ≡ true → asks p a ≡ true
  pub kept : is_in p a.dels ≡ false
  pub added : is_in p a.adds ≡ true → is_in f (numbers a.sets) ≡ true

pub record IsActionOf (task : GroundParts) (a : GAction) : Type 0 where
  pub numbered : IsNumbered task a
  pub orderly : IsOrderly a
  pub tells : (f p : ℕ) → value_atom task f ≡ Some p → TellsOf f p a

-- it changes nothing
pub record IsTest (a : GAction) : Type 0 where
  pub adds : a.adds ≡ []
  pub dels : a.dels ≡ []
  pub incs : a.incs ≡ []
  pub sets : a.sets ≡ []

pub record IsGroundTask (task : GroundParts) : Type 0 where
  pub few : length task.actions ≤ 1000000
  pub actions : All (IsActionOf task) task.actions
  pub goal : IsActionOf task task.goal
  pub goal_is_test : IsTest task.goal
  pub value_atoms_fit : missing task.funcs ≤ length task.atoms
  pub value_atoms_false : (f p : ℕ) → value_atom task f ≡ Some p → (start task).truth p ≡ false
