-- What propagation does to a list of true literals.
use Rattle.std.specs.Prelude.{◌≡◌, ◌≢◌, ◌⊎◌, ℕ, ◌<◌, List, [], ◌∷◌, ◌++◌, Some, slice_get}
use Rattle.std.specs.List.{Contains, All}
use Rattle.formula.specs.declared.atom.Lit.{Lit}
use Rattle.formula.specs.Reading.{opposite}
use Rattle.theory_law.specs.Units.{IsFalse, IsUnit}

-- unassigned
pub record IsOpen (trail : List Lit) (l : Lit) : Type 0 where
  pub not_true : Contains trail l → ⊥
  pub not_false : Contains trail (opposite l) → ⊥

-- two unassigned literals
pub record HasTwo (trail clause : List Lit) : Type 0 where
  pub first : Lit
  pub second : Lit
  pub first_in : Contains clause first
  pub second_in : Contains clause second
  pub differ : first ≢ second
  pub first_open : IsOpen trail first
  pub second_open : IsOpen trail second

abbrev pub HasTrue : List Lit → List Lit → Type 0
HasTrue trail clause = (m : Lit) × Contains clause m × Contains trail m

-- a true literal, or two unassigned ones
abbrev pub IsQuiet : List Lit → List Lit → Type 0
IsQuiet trail clause = HasTrue trail clause ⊎ HasTwo trail clause

-- propagation is complete
abbrev pub IsComplete : List (List Lit) → List Lit → Type 0
IsComplete clauses trail = All (IsQuiet trail) clauses

-- the clause of this number has only false literals
abbrev pub IsFalseAt : List (List Lit) → List Lit → ℕ → Type 0
IsFalseAt clauses trail k = (c : List Lit) × (slice_get clauses k ≡ Some c) × IsFalse trail c

-- each literal in turn was unassigned and the one of a clause that wasn't false
abbrev pub AddsUnits : List (List Lit) → List Lit → List Lit → Type 0
AddsUnits clauses trail [] = Unit {0}
AddsUnits clauses trail (l ∷ added) = ((c : List Lit) × Contains clauses c × IsUnit trail c l) × AddsUnits clauses (trail ++ l ∷ []) added

pub record IsGrown (clauses : List (List Lit)) (before after : List Lit) : Type 0 where
  pub added : List Lit
  pub is : after ≡ before ++ added
  pub units : AddsUnits clauses before added

-- no clause is false by these literals
abbrev pub FalsifiesNone : List (List Lit) → List Lit → Type 0
FalsifiesNone clauses lits = (c : List Lit) → Contains clauses c → IsFalse lits c → ⊥
