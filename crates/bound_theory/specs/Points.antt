-- What is tested of a guessed point.
use Rattle.std.specs.Prelude.{◌≡◌, ◌<◌, ℕ, Bool, true, List, length, Option, Some, None, slice_get}
use lib.IntN.{pos}
use Rattle.rational.specs.Fraction.{Fraction, whole, ◌+ℚ◌}
use Rattle.rational.specs.Floor.{IsWhole}
use Rattle.frac128.specs.Bounds.{IsFrac}
use Rattle.formula.specs.declared.atom.Atom.{Atom}
use Rattle.formula.specs.declared.atom.Lit.{Lit}
use Rattle.theory_law.specs.Readings.{Reads}
use Rattle.theory_law.specs.Verdicts.{IsBetween}

pub record IsNext (k next : Fraction) : Type 0 where
  pub is : next ≡ k +ℚ whole (pos 1)
  pub fits : IsFrac next

-- a whole k below x and above x - 1
pub record IsCutOff (x k : Fraction) : Type 0 where
  pub integral : IsWhole k
  pub next : IsFrac (k +ℚ whole (pos 1))
  pub between : IsBetween k x

pub record IsFirstFraction (counts : List Bool) (values : List Fraction) (v : ℕ) : Type 0 where
  pub count : slice_get counts v ≡ Some true
  pub within : v < length values
  pub first : (i : ℕ) (x : Fraction) → i < v → slice_get counts i ≡ Some true → slice_get values i ≡ Some x → IsWhole x

-- a mark, or a literal whose reading holds
abbrev pub EventReads : List Bool → List (Option Atom) → List Fraction → Option Lit → Type 0
EventReads counts atoms values None = Unit {0}
EventReads counts atoms values (Some l) = Reads counts atoms values l
