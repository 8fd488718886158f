-- The atoms of a formula: `lin <= bound` or `lin < bound`, in one form each, so that equal atoms are one. They are this
-- project's own.
use Rattle.std.specs.Prelude.{◌≡◌, Bool, true, false, List, [], ◌∷◌, length, slice_get, unwrap_or}
use lib.IntN.{pos}
use Rattle.rational.specs.Fraction.{Fraction, whole, ◌+ℚ◌}
use Rattle.rational.specs.Floor.{IsWhole}
use Rattle.rational.specs.Linear.{Terms}
use Rattle.frac128.specs.Bounds.{IsFrac}
use Rattle.lin.specs.Linear.{AreBelow}
use Rattle.formula.specs.declared.atom.Atom.{Atom}

-- the expression is one count
abbrev pub is_one_count : List Bool → Terms → Bool
is_one_count counts [] = false
is_one_count counts (t ∷ []) = unwrap_or (slice_get counts t.0) false
is_one_count counts (t ∷ u ∷ ts) = false

-- the first coefficient is 1
abbrev pub LeadsWithOne : Terms → Type 0
LeadsWithOne [] = ⊥
LeadsWithOne (t ∷ ts) = t.1 ≡ whole (pos 1)

-- `c <= k` for a count c: k is whole, and k and k + 1 are fractions of 128 bits
pub record IsRounded (strict : Bool) (bound : Fraction) : Type 0 where
  pub weak : strict ≡ false
  pub integral : IsWhole bound
  pub next : IsFrac (bound +ℚ whole (pos 1))

pub record IsAtom (counts : List Bool) (a : Atom) : Type 0 where
  pub constant : a.lin.constant ≡ whole (pos 0)
  pub leading : LeadsWithOne a.lin.terms
  pub known : AreBelow (length counts) a.lin.terms
  pub rounded : is_one_count counts a.lin.terms ≡ true → IsRounded a.strict a.bound
