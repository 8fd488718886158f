-- The fraction behind a whole one.
use Rattle.std.proofs.Common.{◌≡◌, ◌↔◌, ℕ, zero, suc, ◌<◌, ◌^◌, refl, sym, ap, subst, ◌∙◌, arith}
use Rattle.std.specs.Prelude.{IsTrue}
use Rattle.std.proofs.lemmas.Bool.Decides.{nat_tests}
use lib.IntN.{ℤ, pos, negsuc, nat_abs, ◌+ℤ◌, +ℤ_one}
use lib.Signed.{lt_z}
use Rattle.rational.specs.Fraction.{Fraction, whole, ◌+ℚ◌}
use Rattle.rational.specs.Floor.{IsWhole}
use Rattle.rational.proofs.FieldLaws.{same_parts, whole-add}
use Rattle.frac128.specs.Bounds.{IsFrac}

next_abs : (n : ℕ) → nat_abs (negsuc n +ℤ pos 1) ≡ n
next_abs zero = refl
next_abs (suc n) = ap nat_abs (+ℤ_one (negsuc (suc n)))

next_fits : (z : ℤ) (m : ℕ) → nat_abs z < suc m → IsTrue (lt_z z (pos m)) ↔ (nat_abs (z +ℤ pos 1) < suc m)
next_fits (pos n) m h = (λ t. grind (arith, nat_tests), λ lt. grind (arith, nat_tests))
next_fits (negsuc n) m h = (λ t. let e = next_abs n in omega (arith, e, h), λ lt. refl)

next_whole : (k : Fraction) → IsWhole k → whole (k.num +ℤ pos 1) ≡ k +ℚ whole (pos 1)
next_whole k h = whole-add k.num (pos 1) ∙ ap (λ (x : Fraction). x +ℚ whole (pos 1)) (sym (same_parts k (whole k.num) refl h))

-- the bound of 128 bits as a number m + 1
pub next_within : (k : Fraction) (m : ℕ) → 2 ^ 127 ≡ suc m → IsWhole k → nat_abs k.num < suc m → IsTrue (lt_z k.num (pos m)) ↔ IsFrac (k +ℚ whole (pos 1))
next_within k m e h low =
    let is : whole (k.num +ℤ pos 1) ≡ k +ℚ whole (pos 1) = next_whole k h in
    let fits = next_fits k.num m low in (
      λ t. subst IsFrac is (record { num = subst (λ (n : ℕ). nat_abs (k.num +ℤ pos 1) < n) (sym e) (fits.0 t); den = omega arith }),
      λ f. fits.1 (subst (λ (n : ℕ). nat_abs (k.num +ℤ pos 1) < n) e (subst IsFrac (sym is) f).num),
    )
