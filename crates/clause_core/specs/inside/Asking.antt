-- What the theory's answers say of a trail.
use Rattle.std.specs.Prelude.{◌≡◌, ◌<◌, ℕ, List, length, Some, slice_get, Bool, true, Option}
use Rattle.std.specs.List.{Contains, All}
use Rattle.rational.specs.Fraction.{Fraction}
use Rattle.formula.specs.declared.atom.Lit.{Lit}
use Rattle.formula.specs.declared.atom.Atom.{Atom}
use Rattle.formula.specs.Contents.{Contents, is_clause}
use Rattle.formula.specs.Reading.{opposite}
use Rattle.theory_law.specs.Readings.{Reads}
use Rattle.theory_law.specs.declared.verdict.Verdict.{Verdict}
use Rattle.theory_law.specs.declared.verdict.Verdict.TheVariants.{Fits, Clash, Cut}
use Rattle.formula.specs.Meets.{AreWhole}
use Rattle.theory_law.specs.Verdicts.{IsCutAt}

-- the values, one for each variable, meet the readings of the trail
pub record IsPoint (f : Contents) (trail : List Lit) (values : List Fraction) : Type 0 where
  pub so_many : length values ≡ length f.counts
  pub readings : (l : Lit) (a : Atom) → Contains trail l → slice_get f.atoms l.boolean ≡ Some (Some a) → Reads f.counts f.atoms values l

-- each Boolean is assigned
abbrev pub IsFull : ℕ → List Lit → Type 0
IsFull n trail = (b : ℕ) → b < n → (l : Lit) × Contains trail l × (l.boolean ≡ b)

-- the theory's point is there, and this holds of its values
abbrev pub AtPoint : Option (List Fraction) → (List Fraction → Type 0) → Type 0
AtPoint point P = (values : List Fraction) × (point ≡ Some values) × P values

-- an answer of the theory, told by the trail
abbrev pub AnswerHolds : {W : Type 0} → (List Bool → List (Option Atom) → List Lit → W → Type 0) → Bool → Contents → List Lit → Bool → Option (List Fraction) → Verdict W → Type 0
AnswerHolds Shown cuts f trail full point Fits = full ≡ true → AtPoint point (λ values. IsPoint f trail values × AreWhole f.counts values)
AnswerHolds Shown cuts f trail full point (Clash clause why) =
    Shown f.counts f.atoms clause why × (is_clause (length f.atoms) clause ≡ true) × All (λ l. Contains trail (opposite l)) clause
AnswerHolds Shown cuts f trail full point (Cut var k) =
    (cuts ≡ true) × (full ≡ true) × AtPoint point (λ values. IsPoint f trail values × IsCutAt f.counts values var k)
