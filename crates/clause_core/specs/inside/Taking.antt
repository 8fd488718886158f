-- The step that is taken next.
use Rattle.std.specs.Prelude.{◌≡◌, ℕ, Bool, List, Option, Some, None}
use Rattle.rational.specs.Fraction.{Fraction}
use Rattle.formula.specs.declared.atom.Lit.{Lit}
use Rattle.formula.specs.declared.atom.Atom.{Atom}
use Rattle.formula.specs.Contents.{Contents}
use Rattle.theory_law.specs.declared.verdict.TheoryFail.{TheoryFail}
use Rattle.theory_law.specs.declared.verdict.TheoryFail.TheVariants as theory
use Rattle.theory_law.specs.declared.log.LogStep.{LogStep}
use Rattle.formula.specs.Meets.{IsSolution}
use Rattle.theory_law.specs.Readings.{IsExact}
use Rattle.theory_law.specs.declared.log.LogStep.TheVariants.{Lemma, Learn, Split}
use Rattle.clause_core.specs.declared.stepping.Next.{Next}
use Rattle.clause_core.specs.declared.stepping.Next.TheVariants.{Step, Point}
use Rattle.clause_core.specs.declared.solving.CoreFail.{CoreFail}
use Rattle.clause_core.specs.declared.solving.CoreFail.TheVariants.{Wide, Pivots, Memory}
use Rattle.clause_core.specs.Stepping.{StepHolds}

abbrev pub core_fail : TheoryFail → CoreFail
core_fail (theory.Wide t) = Wide t
core_fail (theory.Pivots t) = Pivots t
core_fail theory.Memory = Memory

abbrev pub step_clause : {W : Type 0} → LogStep W → Option (List Lit)
step_clause (Lemma clause why) = Some clause
step_clause (Learn clause hints) = Some clause
step_clause (Split boolean var k point) = None

-- a split is that of the theory's last cut
abbrev pub IsOfCut : {W : Type 0} → Option (ℕ × Fraction) → LogStep W → Type 0
IsOfCut cut (Lemma clause why) = Unit {0}
IsOfCut cut (Learn clause hints) = Unit {0}
IsOfCut cut (Split boolean var k point) = cut ≡ Some (var, k)

-- what comes next
abbrev pub NextHolds : {W : Type 0} → (List Bool → List (Option Atom) → List Lit → W → Type 0) → Bool → Contents → Option (ℕ × Fraction) → Next W → Type 0
NextHolds Shown cuts f cut (Step s) = StepHolds Shown cuts f s × IsOfCut cut s
NextHolds Shown cuts f cut (Point p) = IsSolution f p × IsExact f p
