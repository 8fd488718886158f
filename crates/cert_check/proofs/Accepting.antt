-- Accepted steps.
use Rattle.std.proofs.Common.{◌≡◌, ℕ, Bool, true, false, Some, Ok}
use Rattle.std.specs.Prelude.{slice_get}
use Rattle.rational.specs.Fraction.{Fraction}
use Rattle.formula.specs.declared.point.Point.{Point}
use Rattle.formula.specs.Contents.{Contents}
use Rattle.formula.specs.Meets.{MeetsAnswers}
use Rattle.theory_law.specs.declared.log.LogStep.TheVariants.{Split}
use Rattle.theory_law.specs.Verdicts.{IsBetween}
use Rattle.cert_check.specs.Judged.{IsKnown, Accepts}

pub accepts_split : (f : Contents) (b var : ℕ) (k : Fraction) (p : Point) (value : Fraction) (met : Bool) → IsKnown f (Split b var k p) → met ≡ true → MeetsAnswers f p (Ok met)
    → slice_get p.values var ≡ Some value → IsBetween k value → Accepts f (Split b var k p)
accepts_split f b var k p value true known e meets at between = record {
  known = known;
  justified = tt;
  licensed = record { exact = known.2; meets = meets.0; value = value; at = at; between = between };
  fits = meets.1;
}
accepts_split f b var k p value false known e meets at between = absurd (cc)
