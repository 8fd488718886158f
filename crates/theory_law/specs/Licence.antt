-- Licensed logs: no step is taken for free. A clause is new, and a split is due because a count isn't whole.
use Rattle.std.specs.Prelude.{◌≡◌, ℕ, List, [], ◌∷◌, Some, slice_get}
use Rattle.std.specs.List.{Contains}
use Rattle.rational.specs.Fraction.{Fraction}
use Rattle.formula.specs.declared.atom.Lit.{Lit}
use Rattle.formula.specs.declared.point.Point.{Point}
use Rattle.formula.specs.Contents.{Contents}
use Rattle.formula.specs.Meets.{Meets}
use Rattle.theory_law.specs.Readings.{IsExact}
use Rattle.theory_law.specs.declared.log.LogStep.{LogStep}
use Rattle.theory_law.specs.declared.log.LogStep.TheVariants.{Lemma, Learn, Split}
use Rattle.theory_law.specs.Verdicts.{IsBetween}
use Rattle.theory_law.specs.Log.{after}

-- each literal of the one stands in the other
abbrev pub IsPart : List Lit → List Lit → Type 0
IsPart d c = (l : Lit) → Contains d l → Contains c l

-- the clause contains no earlier one
abbrev pub IsNew : List (List Lit) → List Lit → Type 0
IsNew clauses c = (d : List Lit) → Contains clauses d → IsPart d c → ⊥

-- the point meets all clauses and readings so far, and there the count lies strictly between k and k + 1
pub record IsDue (f : Contents) (var : ℕ) (k : Fraction) (p : Point) : Type 0 where
  pub exact : IsExact f p
  pub meets : Meets f p
  pub value : Fraction
  pub at : slice_get p.values var ≡ Some value
  pub between : IsBetween k value

abbrev pub IsLicensed : {W : Type 0} → Contents → LogStep W → Type 0
IsLicensed f (Lemma c why) = IsNew f.clauses c
IsLicensed f (Learn c hints) = IsNew f.clauses c
IsLicensed f (Split b var k point) = IsDue f var k point

abbrev pub IsLicensedLog : {W : Type 0} → Contents → List (LogStep W) → Type 0
IsLicensedLog f [] = Unit {0}
IsLicensedLog f (s ∷ log) = IsLicensed f s × IsLicensedLog (after f s) log
