-- The first count that isn't whole.
use Rattle.std.specs.Prelude.{◌≡◌, ◌<◌, ℕ, Bool, true, List, length, Some, slice_get}
use lib.IntN.{pos}
use Rattle.rational.specs.Fraction.{Fraction, whole, ◌+ℚ◌}
use Rattle.rational.specs.Floor.{IsWhole}
use Rattle.frac128.specs.Bounds.{IsFrac}
use Rattle.formula.specs.Meets.{AreWhole}
use Rattle.theory_law.specs.declared.trace.Coefs.{Coefs}
use Rattle.theory_law.specs.declared.verdict.Verdict.{Verdict}
use Rattle.theory_law.specs.declared.verdict.Verdict.TheVariants.{Fits, Clash, Cut}
use Rattle.theory_law.specs.Verdicts.{IsBetween, IsCutAt}

pub record IsNext (k next : Fraction) : Type 0 where
  pub is : next ≡ k +ℚ whole (pos 1)
  pub fits : IsFrac next

-- a whole k below x and above x - 1
pub record IsCutOff (x k : Fraction) : Type 0 where
  pub integral : IsWhole k
  pub next : IsFrac (k +ℚ whole (pos 1))
  pub between : IsBetween k x

pub record IsFirstFraction (counts : List Bool) (values : List Fraction) (v : ℕ) : Type 0 where
  pub count : slice_get counts v ≡ Some true
  pub within : v < length values
  pub first : (i : ℕ) (x : Fraction) → i < v → slice_get counts i ≡ Some true → slice_get values i ≡ Some x → IsWhole x

-- the counts are whole, or the first that isn't is cut
abbrev pub WholeOrCut : List Bool → List Fraction → Verdict Coefs → Type 0
WholeOrCut counts values Fits = AreWhole counts values
WholeOrCut counts values (Cut var k) = IsCutAt counts values var k
WholeOrCut counts values (Clash clause why) = ⊥
