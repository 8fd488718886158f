-- What a clause says under a table of truths.
use Rattle.std.specs.Prelude.{◌≡◌, ◌≢◌, ◌↔◌, ℕ, Bool, true, false, List, Option, Some, None}
use Rattle.std.specs.List.{Contains}
use Rattle.formula.specs.declared.atom.Lit.{Lit}
use Rattle.theory_law.specs.Units.{Follows}
use Rattle.clause_units.specs.declared.units.Scanned.{Scanned}
use Rattle.clause_units.specs.declared.units.Scanned.TheVariants.{Met, Broken, Unit as UnitOf, Open}
use Rattle.clause_units.specs.Truth.{truth_of, Tells}

-- one is open, and each other is false
pub record IsUnitIn (table : List (Option Bool)) (clause : List Lit) (l : Lit) : Type 0 where
  pub within : Contains clause l
  pub is_open : truth_of table l ≡ None
  pub others : (m : Lit) → Contains clause m → m ≢ l → truth_of table m ≡ Some false

pub record HasTwoOpen (table : List (Option Bool)) (clause : List Lit) : Type 0 where
  pub first : Lit
  pub second : Lit
  pub first_in : Contains clause first
  pub second_in : Contains clause second
  pub differ : first ≢ second
  pub first_open : truth_of table first ≡ None
  pub second_open : truth_of table second ≡ None

-- all are false
abbrev pub IsBroken : List (Option Bool) → List Lit → Type 0
IsBroken table clause = (m : Lit) → Contains clause m → truth_of table m ≡ Some false

abbrev pub ScanHolds : List (Option Bool) → List Lit → Scanned → Type 0
ScanHolds table clause Met = (m : Lit) × Contains clause m × (truth_of table m ≡ Some true)
ScanHolds table clause Broken = IsBroken table clause
ScanHolds table clause (UnitOf l) = IsUnitIn table clause l
ScanHolds table clause Open = HasTwoOpen table clause

-- with these literals true, the hints do what the rest of them does under the table
pub record GoesOn (clauses : List (List Lit)) (trues : List Lit) (hints : List ℕ) (table : List (Option Bool)) (rest : List ℕ) : Type 0 where
  pub now : List Lit
  pub tells : Tells table now
  pub same : Follows clauses now rest ↔ Follows clauses trues hints
