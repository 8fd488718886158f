-- Splits on counts (branch and bound): an atom that parts the values of a count at a whole number.
use Rattle.std.specs.Prelude.{◌≡◌, ℕ, Bool, true, false, List, Some, slice_get}
use lib.IntN.{pos}
use Rattle.rational.specs.Fraction.{Fraction, whole, ◌+ℚ◌}
use Rattle.rational.specs.Floor.{IsWhole}
use Rattle.frac128.specs.Bounds.{IsFrac}
use Rattle.lin.specs.Linear.{var}
use Rattle.formula.specs.declared.atom.Atom.{Atom}

-- `count <= k`
abbrev pub at_most : ℕ → Fraction → Atom
at_most count k = record { lin = var count; strict = false; bound = k }

-- a count, and a whole k such that k + 1 is a fraction of 128 bits too
pub record CanSplit (counts : List Bool) (v : ℕ) (k : Fraction) : Type 0 where
  pub count : slice_get counts v ≡ Some true
  pub integral : IsWhole k
  pub next : IsFrac (k +ℚ whole (pos 1))
