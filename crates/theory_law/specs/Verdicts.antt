-- What the answers of a check mean (this project): the theory's points are by fractions, its clashes shown clauses.
use Rattle.std.specs.Prelude.{◌≡◌, ℕ, ◌<◌, Bool, true, List, length, Option, Some, None, Ok, Err, Result, slice_get}
use Rattle.std.specs.List.{All}
use lib.IntN.{pos}
use Rattle.rational.specs.Fraction.{Fraction, whole, ◌+ℚ◌, ◌<ℚ◌}
use Rattle.rational.specs.Floor.{IsWhole}
use Rattle.frac128.specs.declared.operations.Wide.{Wide}
use Rattle.formula.specs.declared.atom.Lit.{Lit}
use Rattle.formula.specs.declared.atom.Atom.{Atom}
use Rattle.theory_law.specs.Splits.{CanSplit}
use Rattle.formula.specs.Reading.{opposite}
use Rattle.formula.specs.Meets.{AreWhole}
use Rattle.theory_law.specs.Readings.{Reads}
use Rattle.formula.specs.Contents.{is_clause}
use Rattle.theory_law.specs.declared.verdict.Verdict.{Verdict}
use Rattle.theory_law.specs.declared.verdict.Verdict.TheVariants.{Fits, Clash, Cut}
use Rattle.theory_law.specs.declared.verdict.TheoryFail.{TheoryFail}
use Rattle.theory_law.specs.declared.verdict.TheoryFail.TheVariants.{Wide as WideFail, Pivots as PivotsFail, Memory}
use Rattle.theory_law.specs.declared.trace.Trace.{Trace}
use Rattle.theory_law.specs.declared.trace.Lemma.{Lemma}
use Rattle.theory_law.specs.declared.trace.Site.{Site}
use Rattle.theory_law.specs.declared.trace.Site.TheVariants.{Pivots, Pivot, Value, Point, Farkas}
use Rattle.theory_law.specs.Seen.{Seen, IsAsserted}

-- the values, one for each variable, meet the reading of each asserted literal
abbrev pub MeetsAsserted : Seen → List Fraction → Type 0
MeetsAsserted s values = (length values ≡ length s.counts) × ((l : Lit) → IsAsserted s.asserted l → Reads s.counts s.atoms values l)

-- the values that `point` gives meet them
abbrev pub IsFixed : Seen → Option (List Fraction) → Type 0
IsFixed s point = (values : List Fraction) × (point ≡ Some values) × MeetsAsserted s values

-- k < x < k + 1
pub record IsBetween (k x : Fraction) : Type 0 where
  pub above : k <ℚ x
  pub below : x <ℚ (k +ℚ whole (pos 1))

-- the first count that isn't whole lies strictly between k and k + 1
pub record IsCutAt (counts : List Bool) (values : List Fraction) (var : ℕ) (k : Fraction) : Type 0 where
  pub splits : CanSplit counts var k
  pub value : Fraction
  pub at : slice_get values var ≡ Some value
  pub between : IsBetween k value
  pub first : (v : ℕ) (x : Fraction) → v < var → slice_get counts v ≡ Some true → slice_get values v ≡ Some x → IsWhole x

-- ---- answers

-- what an answer says, where `full` tells that every atom is asserted, and `point` is what the theory's point then is
abbrev pub VerdictHolds : {W : Type 0} → (List Bool → List (Option Atom) → List Lit → W → Type 0) → Bool → Seen → Bool → Option (List Fraction) → Verdict W → Type 0
VerdictHolds Shown cuts s full point Fits =
    ((values : List Fraction) × MeetsAsserted s values)
    × (full ≡ true → (values : List Fraction) × (point ≡ Some values) × MeetsAsserted s values × AreWhole s.counts values)
VerdictHolds Shown cuts s full point (Clash clause why) =
    Shown s.counts s.atoms clause why × (is_clause (length s.atoms) clause ≡ true) × All (λ l. IsAsserted s.asserted (opposite l)) clause
VerdictHolds Shown cuts s full point (Cut var k) =
    (cuts ≡ true) × (full ≡ true) × ((values : List Fraction) × (point ≡ Some values) × MeetsAsserted s values × IsCutAt s.counts values var k)

abbrev pub last_cut : {W : Type 0} → Result (Verdict W) TheoryFail → Option (ℕ × Fraction)
last_cut (Ok (Cut var k)) = Some (var, k)
last_cut (Ok Fits) = None
last_cut (Ok (Clash clause why)) = None
last_cut (Err fail) = None

-- ---- refusals

abbrev pub LemmaFits : Site → Option Lemma → Type 0
LemmaFits Farkas (Some lemma) = Unit {0}
LemmaFits Farkas None = ⊥
LemmaFits Pivots lemma = lemma ≡ None
LemmaFits Pivot lemma = lemma ≡ None
LemmaFits Value lemma = lemma ≡ None
LemmaFits Point lemma = lemma ≡ None

-- only pivots that are spent have no operation that passes
abbrev pub WideFits : Site → Option Wide → Type 0
WideFits Pivots wide = wide ≡ None
WideFits site None = ⊥
WideFits site (Some wide) = Unit {0}

-- a stuck trace with its evidence
pub record IsTraceOf (Stuck : List Bool → List (Option Atom) → ℕ → Trace → Type 0) (counts : List Bool) (atoms : List (Option Atom)) (pivots : ℕ) (t : Trace) : Type 0 where
  pub stuck : Stuck counts atoms pivots t
  pub wide : WideFits t.site t.wide
  pub lemma : LemmaFits t.site t.lemma

-- and its literals are asserted
pub record IsStuckAt (Stuck : List Bool → List (Option Atom) → ℕ → Trace → Type 0) (s : Seen) (t : Trace) : Type 0 where
  pub trace : IsTraceOf Stuck s.counts s.atoms s.pivots t
  pub asserted : All (IsAsserted s.asserted) t.lits

-- this holds of the trace, which stopped at the number of pivots exactly where the refusal says so
abbrev pub FailHolds : (Trace → Type 0) → TheoryFail → Type 0
FailHolds Says (WideFail t) = Says t × (t.site ≡ Pivots → ⊥)
FailHolds Says (PivotsFail t) = Says t × (t.site ≡ Pivots)
FailHolds Says Memory = Unit {0}
