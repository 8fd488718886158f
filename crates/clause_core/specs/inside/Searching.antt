-- What a search stopped at.
use Rattle.std.specs.Prelude.{◌≡◌, ◌<◌, ◌≤◌, ℕ, Bool, true, List, Option, Some, length}
use Rattle.rational.specs.Fraction.{Fraction}
use Rattle.formula.specs.declared.atom.Lit.{Lit}
use Rattle.formula.specs.declared.atom.Atom.{Atom}
use Rattle.formula.specs.Contents.{is_clause}
use Rattle.formula.specs.Meets.{AreWhole}
use Rattle.theory_law.specs.Verdicts.{IsCutAt}
use Rattle.theory_law.specs.Licence.{IsNew}
use Rattle.clause_core.specs.declared.search.Event.{Event}
use Rattle.clause_core.specs.declared.search.Event.TheVariants.{Conflict, Clash, Cut, Full}
use Rattle.clause_core.specs.Cored.{Cored}
use Rattle.clause_trail.specs.Propagation.{IsComplete, IsFalseAt}
use Rattle.clause_core.specs.inside.Asking.{IsPoint, AtPoint, IsFull}

-- every Boolean is assigned, no clause is false, and the values meet the readings of the trail
pub record IsDone {T : Type 0} (c : Cored T) (values : List Fraction) : Type 0 where
  pub quiet : IsComplete c.formula.clauses c.trail
  pub full : IsFull (length c.formula.atoms) c.trail
  pub point : IsPoint c.formula c.trail values

abbrev pub EventHolds : {T W : Type 0} → (List Bool → List (Option Atom) → List Lit → W → Type 0) → Bool → Cored T → Option (List Fraction) → Option (ℕ × Fraction) → Event W → Type 0
EventHolds Shown cuts c point cut (Conflict k) = IsFalseAt c.formula.clauses c.trail k
EventHolds Shown cuts c point cut (Clash clause why) =
    (is_clause (length c.formula.atoms) clause ≡ true) × Shown c.formula.counts c.formula.atoms clause why × IsNew c.formula.clauses clause
EventHolds Shown cuts c point cut (Cut var k) =
    (cuts ≡ true) × (cut ≡ Some (var, k)) × AtPoint point (λ values. IsDone c values × IsCutAt c.formula.counts values var k)
EventHolds Shown cuts c point cut Full = AtPoint point (λ values. IsDone c values × AreWhole c.formula.counts values)

-- the trail got longer, within so many Booleans
pub record IsLonger (booleans : ℕ) (before now : List Lit) : Type 0 where
  pub longer : length before < length now
  pub room : length now ≤ booleans
