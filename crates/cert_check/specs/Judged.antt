-- What the judge of certificates says of a step, over the formula so far. Its tests stand in one order, and the answer is the
-- first that fails: does the step name what is there, does its evidence show the clause, and is it licensed? An operation that
-- passes 128 bits is an answer at the place of the test that it belongs to.
use Rattle.std.specs.Prelude.{◌≡◌, ◌<◌, ◌⊎◌, ℕ, true, false, List, [], ◌∷◌, map, length, Some, Result, Ok, Err, All, slice_get}
use Rattle.rational.specs.Fraction.{Fraction}
use Rattle.frac128.specs.declared.operations.Wide.{Wide}
use Rattle.lin.specs.declared.failure.LinFail.TheVariants as lin
use Rattle.lin.specs.Operations.{AllFit}
use Rattle.formula.specs.declared.point.Point.{Point}
use Rattle.formula.specs.Contents.{Contents, is_clause}
use Rattle.formula.specs.Reading.{IsOfAtom, opposite}
use Rattle.formula.specs.Farkas.{taken, IsFarkas, farkas_ops, FarkasAnswers}
use Rattle.formula.specs.Meets.{FitsAt, MeetsAnswers}
use Rattle.theory_law.specs.declared.trace.Coefs.{Coefs}
use Rattle.theory_law.specs.declared.log.LogStep.{LogStep}
use Rattle.theory_law.specs.declared.log.LogStep.TheVariants.{Lemma, Learn, Split}
use Rattle.theory_law.specs.Readings.{IsExact}
use Rattle.theory_law.specs.Splits.{CanSplit}
use Rattle.theory_law.specs.Units.{Follows}
use Rattle.theory_law.specs.Verdicts.{IsBetween}
use Rattle.theory_law.specs.Licence.{IsNew, IsLicensed}
use Rattle.theory_law.specs.Log.{after}
use Rattle.cert_check.specs.declared.bad.Bad.{Bad}
use Rattle.cert_check.specs.declared.bad.Bad.TheVariants.{Known, Farkas, Hint, Licence, Wide as WideBad, Memory}

-- ---- accepted steps

-- what the step names is there: a lemma has a coefficient for each literal, all of atoms; hints are numbers of clauses; a split
-- makes the next Boolean, on a count, and has a whole point
abbrev pub IsKnown : Contents → LogStep Coefs → Type 0
IsKnown f (Lemma c why) = (is_clause (length f.atoms) c ≡ true) × All (IsOfAtom f) c × (length why.list ≡ length c)
IsKnown f (Learn c hints) = (is_clause (length f.atoms) c ≡ true) × All (λ h. h < length f.clauses) hints
IsKnown f (Split b var k point) = (b ≡ length f.atoms) × CanSplit f.counts var k × IsExact f point

-- its evidence shows the clause
abbrev pub IsJustified : Contents → LogStep Coefs → Type 0
IsJustified f (Lemma c why) = IsFarkas (taken f c why.list)
IsJustified f (Learn c hints) = Follows f.clauses (map opposite c) hints
IsJustified f (Split b var k point) = Unit {0}

-- no operation of its tests passes
abbrev pub Fits : Contents → LogStep Coefs → Type 0
Fits f (Lemma c why) = AllFit (farkas_ops (taken f c why.list))
Fits f (Learn c hints) = Unit {0}
Fits f (Split b var k point) = (n : ℕ) → n < length f.atoms → FitsAt f point n

pub record Accepts (f : Contents) (s : LogStep Coefs) : Type 0 where
  pub known : IsKnown f s
  pub justified : IsJustified f s
  pub licensed : IsLicensed f s
  pub fits : Fits f s

-- each step of the log is accepted
abbrev pub AreAccepted : Contents → List (LogStep Coefs) → Type 0
AreAccepted f [] = Unit {0}
AreAccepted f (s ∷ log) = Accepts f s × AreAccepted (after f s) log

-- ---- refused steps, all of which name what is there

-- `farkas` answers false
abbrev pub FailsFarkas : Contents → LogStep Coefs → Type 0
FailsFarkas f (Lemma c why) = FarkasAnswers f c why.list (Ok false)
FailsFarkas f (Learn c hints) = ⊥
FailsFarkas f (Split b var k point) = ⊥

-- the clause doesn't follow by its hints
abbrev pub FailsHints : Contents → LogStep Coefs → Type 0
FailsHints f (Lemma c why) = ⊥
FailsHints f (Learn c hints) = Follows f.clauses (map opposite c) hints → ⊥
FailsHints f (Split b var k point) = ⊥

-- k < value < k + 1
abbrev pub IsBetweenAt : Point → ℕ → Fraction → Type 0
IsBetweenAt p var k = (value : Fraction) × (slice_get p.values var ≡ Some value) × IsBetween k value

-- what is shown is no new clause; or the point doesn't meet the formula so far, or the count isn't between k and k + 1 there
abbrev pub FailsLicence : Contents → LogStep Coefs → Type 0
FailsLicence f (Lemma c why) = FarkasAnswers f c why.list (Ok true) × (IsNew f.clauses c → ⊥)
FailsLicence f (Learn c hints) = Follows f.clauses (map opposite c) hints × (IsNew f.clauses c → ⊥)
FailsLicence f (Split b var k point) = MeetsAnswers f point (Ok false) ⊎ (MeetsAnswers f point (Ok true) × (IsBetweenAt point var k → ⊥))

-- the operation passes, the first of the test
abbrev pub PassesIn : Contents → LogStep Coefs → Wide → Type 0
PassesIn f (Lemma c why) w = FarkasAnswers f c why.list (Err (lin.Wide w))
PassesIn f (Learn c hints) w = ⊥
PassesIn f (Split b var k point) w = MeetsAnswers f point (Err w)

abbrev pub Judged : Contents → LogStep Coefs → Result (Unit {0}) Bad → Type 0
Judged f s (Ok done) = Accepts f s
Judged f s (Err Known) = IsKnown f s → ⊥
Judged f s (Err Farkas) = IsKnown f s × FailsFarkas f s
Judged f s (Err Hint) = IsKnown f s × FailsHints f s
Judged f s (Err Licence) = IsKnown f s × FailsLicence f s
Judged f s (Err (WideBad w)) = IsKnown f s × PassesIn f s w
Judged f s (Err Memory) = Unit {0}
