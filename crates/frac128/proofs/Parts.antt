-- What a fraction's fields say of it.
use Rattle.std.proofs.Common.{◌≡◌, ◌<◌, subst, refl, sym, ap, ◌∙◌, arith, Bool, ◌&&◌, int_eq}
use Rattle.std.proofs.lemmas.Int.{ints, to_z-of_z, fits_signed_from_abs}
use mir.Syntax.{w128}
use mir.Val.{to_z, of_z}
use lib.IntN.{ℤ, pos, negsuc, nat_abs}
use lib.Signed.{◌≤ℤ◌}
use Rattle.rational.specs.Fraction.{Fraction}
use Rattle.frac128.specs.declared.fraction.Frac.TheInside.{Inside}
use Rattle.frac128.specs.Bounds.{IsWithin}
use Rattle.frac128.specs.Fields.{view_of, IsReduced, fields_of-view_of}

pub num_is : (f : Inside) (x : Fraction) → view_of f ≡ x → IsReduced f → f.num ≡ x.num
num_is f x e h = sym (ap (λ (g : Inside). g.num) (fields_of-view_of f h)) ∙ ap (λ (y : Fraction). y.num) e

pub den_is : (f : Inside) (x : Fraction) → view_of f ≡ x → IsReduced f → f.den ≡ pos x.den
den_is f x e h = sym (ap (λ (g : Inside). g.den) (fields_of-view_of f h)) ∙ ap (λ (y : Fraction). pos y.den) e

pub num_read : (f : Inside) (x : Fraction) → view_of f ≡ x → IsReduced f → to_z w128 (of_z w128 f.num) ≡ x.num
num_read f x e h = to_z-of_z w128 f.num (fits_signed_from_abs w128 f.num h.num_bound) ∙ num_is f x e h

pub den_read : (f : Inside) (x : Fraction) → view_of f ≡ x → IsReduced f → to_z w128 (of_z w128 f.den) ≡ pos x.den
den_read f x e h = to_z-of_z w128 f.den (fits_signed_from_abs w128 f.den h.den_bound) ∙ den_is f x e h

-- a number that fits 128 bits is the one read back
pub within_read : (z : ℤ) → IsWithin z → IsWithin (to_z w128 (of_z w128 z))
within_read z h = subst IsWithin (sym (to_z-of_z w128 z (fits_signed_from_abs w128 z h))) h

pub eq_read : (f g : Inside) (x y : Fraction) → view_of f ≡ x → IsReduced f → view_of g ≡ y → IsReduced g → (r s : Bool) → r ≡ int_eq f.num g.num → s ≡ (r && int_eq f.den g.den)
    → s ≡ (int_eq x.num y.num && int_eq (pos x.den) (pos y.den))
eq_read f g x y a h b j r s p q =
    let n : int_eq f.num g.num ≡ int_eq x.num y.num = ap (λ (z : ℤ). int_eq z g.num) (num_is f x a h) ∙ ap (int_eq x.num) (num_is g y b j) in
    let d : int_eq f.den g.den ≡ int_eq (pos x.den) (pos y.den) = ap (λ (z : ℤ). int_eq z g.den) (den_is f x a h) ∙ ap (int_eq (pos x.den)) (den_is g y b j) in
    q ∙ ap (λ (t : Bool). t && int_eq f.den g.den) (p ∙ n) ∙ ap (λ (t : Bool). int_eq x.num y.num && t) d

pub of_positive : (z : ℤ) → pos 1 ≤ℤ z → (pos (nat_abs z) ≡ z) × (0 < nat_abs z)
of_positive (pos n) h = (refl, omega (arith, ints))
of_positive (negsuc n) h = absurd (omega (arith, ints))
