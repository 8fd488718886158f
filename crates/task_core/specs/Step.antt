-- The step of a ground action (PDDL 2.1, level 2): what it needs of a state, and the state after it.
use Rattle.std.specs.Prelude.{ℕ, Bool, true, false, not, ◌&&◌, List, [], ◌∷◌, nat_eq, Option, Some, None, if◌then◌else◌}
use Rattle.std.specs.List.{AllByRecursion, list_any, list_all}
use Rattle.rational.specs.Fraction.{Fraction, ◌+ℚ◌}
use Rattle.rational.specs.Linear.{Terms, coefficient_of}
use Rattle.lin.specs.Linear.{Linear, value_of}
use Rattle.lin.specs.declared.comparison.Cmp.{Cmp}
use Rattle.task_core.specs.declared.action.GAction.{GAction}
use Rattle.task_core.specs.State.{State, LiteralHolds, ComparisonHolds}

abbrev pub LiteralsHold : State → List (ℕ × Bool) → Type 0
LiteralsHold s lits = AllByRecursion (LiteralHolds s) lits

abbrev pub ComparisonsHold : State → List (Linear × Cmp) → Type 0
ComparisonsHold s cmps = AllByRecursion (ComparisonHolds s) cmps

-- an action has its step from a state in which all its literals and comparisons hold; the goal holds where all of its do
pub record Holds (a : GAction) (s : State) : Type 0 where
  pub literals : LiteralsHold s a.lits
  pub comparisons : ComparisonsHold s a.cmps

abbrev pub is_in : ℕ → List ℕ → Bool
is_in n ns = list_any (λ m. nat_eq m n) ns

-- the expression of a function's new value, where it is given one
abbrev pub set_of : List (ℕ × Linear) → ℕ → Option Linear
set_of [] f = None
set_of (s ∷ more) f = if nat_eq s.0 f then Some s.1 else set_of more f

-- added atoms become true and deleted ones false
abbrev pub truth_after : GAction → State → ℕ → Bool
truth_after a s p = if is_in p a.adds then true else (if is_in p a.dels then false else s.truth p)

-- a function that is given a new value has that of the expression in the old state; any other grows by its amount, if any
abbrev pub new_value : State → Terms → ℕ → Option Linear → Fraction
new_value s incs f None = s.value f +ℚ coefficient_of f incs
new_value s incs f (Some l) = value_of s.value l

abbrev pub value_after : GAction → State → ℕ → Fraction
value_after a s f = new_value s a.incs f (set_of a.sets f)

-- the state after the step
abbrev pub after : GAction → State → State
after a s = record { truth = truth_after a s; value = value_after a s }

-- ---- rollable: may be repeated at once (this project, after Cardellini, Giunchiglia and Maratea 2024)

abbrev pub is_empty : {X : Type 0} → List X → Bool
is_empty [] = true
is_empty (x ∷ more) = false

-- the step leaves the literal as it is: an atom that has to be true isn't deleted, one that has to be false isn't added
abbrev pub keeps : GAction → ℕ × Bool → Bool
keeps a l = not (is_in l.0 (if l.1 then a.dels else a.adds))

-- it gives no new values, it has an increment, and it keeps each of its literals
abbrev pub is_rollable : GAction → Bool
is_rollable a = is_empty a.sets && (not (is_empty a.incs) && list_all (keeps a) a.lits)
