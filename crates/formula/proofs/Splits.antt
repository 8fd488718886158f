-- The atom of a split is an atom.
use Rattle.std.proofs.Common.{◌≡◌, ◌<◌, ℕ, Bool, true, false, List, length, Some, refl, subst, sym, arith, nat_lt}
use Rattle.std.specs.Prelude.{slice_get}
use Rattle.std.proofs.lemmas.Bool.{and_from}
use Rattle.std.proofs.lemmas.Bool.Decides.{nat_tests}
use Rattle.std.proofs.lemmas.Option.{slice_get_within}
use lib.IntN.{pos}
use Rattle.rational.specs.Fraction.{Fraction, whole, ◌+ℚ◌}
use Rattle.rational.specs.Floor.{IsWhole}
use Rattle.frac128.specs.Bounds.{IsFrac}
use Rattle.lin.specs.Linear.{Linear, var}
use Rattle.formula.specs.Atoms.{IsAtom}

is_less : (m n : ℕ) → m < n → nat_lt m n ≡ true
is_less m n h = grind (arith, nat_tests)

split_atom : (counts : List Bool) (v : ℕ) (k : Fraction) → slice_get counts v ≡ Some true → IsWhole k → IsFrac (k +ℚ whole (pos 1))
    → IsAtom counts (record { lin = var v; strict = false; bound = k })
split_atom counts v k e w n = record {
  constant = refl;
  leading = refl;
  known = and_from _ _ (is_less v (length counts) (slice_get_within counts v true e)) refl;
  rounded = λ h. record { weak = refl; integral = w; next = n };
}

pub split_is_atom : (counts : List Bool) (v : ℕ) (k : Fraction) (l : Linear) → l ≡ var v → slice_get counts v ≡ Some true → IsWhole k → IsFrac (k +ℚ whole (pos 1))
    → IsAtom counts (record { lin = l; strict = false; bound = k })
split_is_atom counts v k l f e w n =
    subst (λ (m : Linear). IsAtom counts (record { lin = m; strict = false; bound = k })) (sym f) (split_atom counts v k e w n)
