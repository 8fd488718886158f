-- What clauses say under a trail.
use Rattle.std.specs.Prelude.{◌≡◌, ◌≢◌, ◌⊎◌, ◌<◌, ℕ, Bool, true, false, List, length, Some, slice_get, Option, None}
use Rattle.std.specs.List.{Contains, All}
use Rattle.formula.specs.declared.atom.Lit.{Lit}
use Rattle.formula.specs.Reading.{opposite}
use Rattle.clause_trail.specs.declared.trail.Entry.{Entry}
use Rattle.clause_trail.specs.Standing.{Stands, Before, IsFree, Forces}
use Rattle.clause_trail.specs.declared.scanning.Scanned.{Scanned}
use Rattle.clause_trail.specs.declared.scanning.Scanned.TheVariants.{Satisfied, Falsified, Unit as UnitOf, Open}
use Rattle.clause_trail.specs.declared.scanning.Next.{Next}
use Rattle.clause_trail.specs.declared.scanning.Next.TheVariants.{Conflict, Unit as NextUnit, Done}

-- all literals of the clause are false
abbrev pub IsFalseAmong : List Entry → List Lit → Type 0
IsFalseAmong entries clause = (m : Lit) → Contains clause m → Before entries (length entries) (opposite m)

-- the clause of this number is false
abbrev pub IsConflict : List (List Lit) → List Entry → ℕ → Type 0
IsConflict clauses entries k = (c : List Lit) × (slice_get clauses k ≡ Some c) × IsFalseAmong entries c

abbrev pub IsTrueLit : List Entry → Lit → Type 0
IsTrueLit entries l = (p : ℕ) × Stands entries p l

-- some literal is true
abbrev pub IsSatisfied : List Entry → List Lit → Type 0
IsSatisfied entries clause = (m : Lit) × Contains clause m × IsTrueLit entries m

-- two literals are unassigned
pub record HasTwoFree (entries : List Entry) (clause : List Lit) : Type 0 where
  pub first : Lit
  pub second : Lit
  pub first_in : Contains clause first
  pub second_in : Contains clause second
  pub differ : first ≢ second
  pub first_free : IsFree entries first.boolean
  pub second_free : IsFree entries second.boolean

abbrev pub ScanHolds : List Entry → List Lit → Scanned → Type 0
ScanHolds entries clause Satisfied = IsSatisfied entries clause
ScanHolds entries clause Falsified = IsFalseAmong entries clause
ScanHolds entries clause (UnitOf l) = Forces entries (length entries) clause l × IsFree entries l.boolean
ScanHolds entries clause Open = HasTwoFree entries clause

abbrev pub NextHolds : List Entry → List (List Lit) → Next → Type 0
NextHolds entries clauses (Conflict k) = (c : List Lit) × (slice_get clauses k ≡ Some c) × IsFalseAmong entries c
NextHolds entries clauses (NextUnit k l) = (c : List Lit) × (slice_get clauses k ≡ Some c) × Forces entries (length entries) c l × IsFree entries l.boolean
NextHolds entries clauses Done = All (λ c. IsSatisfied entries c ⊎ HasTwoFree entries c) clauses

-- each clause before the place has a true literal, or two that are unassigned
abbrev pub AreQuietBefore : List Entry → List (List Lit) → ℕ → Type 0
AreQuietBefore entries clauses k = (i : ℕ) (c : List Lit) → i < k → slice_get clauses i ≡ Some c → IsSatisfied entries c ⊎ HasTwoFree entries c

-- the clause that is named is the first that says something
abbrev pub IsFirstOpen : List Entry → List (List Lit) → Next → Type 0
IsFirstOpen entries clauses (Conflict k) = AreQuietBefore entries clauses k
IsFirstOpen entries clauses (NextUnit k l) = AreQuietBefore entries clauses k
IsFirstOpen entries clauses Done = Unit {0}
