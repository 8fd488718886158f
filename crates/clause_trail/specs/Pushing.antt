-- Entries that clauses force.
use Rattle.std.specs.Prelude.{◌≡◌, ◌⊎◌, ℕ, ◌<◌, List, [], ◌∷◌, ◌++◌, length, Some, slice_get}
use Rattle.formula.specs.declared.atom.Lit.{Lit}
use Rattle.clause_trail.specs.declared.trail.Entry.{Entry}
use Rattle.clause_trail.specs.Standing.{IsFree, Forces}
use Rattle.clause_trail.specs.Scanning.{IsFalseAmong, IsSatisfied, HasTwoFree}

-- the entry is unassigned, and forced by a clause
pub record IsForced (clauses : List (List Lit)) (n : ℕ) (entries : List Entry) (e : Entry) : Type 0 where
  pub reason : ℕ
  pub clause : List Lit
  pub has : e.reason ≡ Some reason
  pub at : slice_get clauses reason ≡ Some clause
  pub forces : Forces entries (length entries) clause e.lit
  pub unassigned : IsFree entries e.lit.boolean
  pub low : e.lit.boolean < n

abbrev pub Pushes : List (List Lit) → ℕ → List Entry → List Entry → Type 0
Pushes clauses n entries [] = Unit {0}
Pushes clauses n entries (e ∷ added) = IsForced clauses n entries e × Pushes clauses n (entries ++ e ∷ []) added

-- forced entries were added
pub record IsPushed (clauses : List (List Lit)) (n : ℕ) (before after : List Entry) : Type 0 where
  pub added : List Entry
  pub is : after ≡ before ++ added
  pub pushes : Pushes clauses n before added

-- all literals but one are false, and that one is now true by the clause
pub record IsMadeTrue (clause : List Lit) (number : ℕ) (before after : List Entry) : Type 0 where
  pub lit : Lit
  pub forces : Forces before (length before) clause lit
  pub unassigned : IsFree before lit.boolean
  pub is : after ≡ before ++ record { lit = lit; reason = Some number } ∷ []

-- the clause forces nothing: it is false, or has a true literal, or two that are unassigned
pub record IsUnforced (clause : List Lit) (before after : List Entry) : Type 0 where
  pub same : after ≡ before
  pub says : IsFalseAmong before clause ⊎ (IsSatisfied before clause ⊎ HasTwoFree before clause)

-- what the clause of this number forces, and nothing else, was made true
abbrev pub AssertsClause : List (List Lit) → ℕ → List Entry → List Entry → Type 0
AssertsClause clauses number before after = (c : List Lit) × (slice_get clauses number ≡ Some c) × (IsMadeTrue c number before after ⊎ IsUnforced c before after)
