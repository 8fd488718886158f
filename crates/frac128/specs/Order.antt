-- The order of fractions and the greatest whole number not above one, by the order of unlimited fractions.
use Rattle.std.specs.Prelude.{◌≡◌, ℤ, ◌≤ℤ◌}
use Rattle.std.specs.declared.cmp.Ordering.{Ordering}
use Rattle.std.specs.declared.cmp.Ordering.TheVariants.{Less, Equal, Greater}
use Rattle.rational.specs.Fraction.{Fraction, whole, ◌≤ℚ◌, ◌<ℚ◌}

abbrev pub Compares : Fraction → Fraction → Ordering → Type 0
Compares x y Less = x <ℚ y
Compares x y Equal = x ≡ y
Compares x y Greater = y <ℚ x

-- z is the greatest whole number not above x
pub record IsFloor (x : Fraction) (z : ℤ) : Type 0 where
  pub below : whole z ≤ℚ x
  pub greatest : (n : ℤ) → whole n ≤ℚ x → n ≤ℤ z
