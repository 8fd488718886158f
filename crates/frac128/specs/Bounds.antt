-- The numbers that a fraction of 128 bits may have: from -(2^127 - 1) to 2^127 - 1, so that each has its negative.
use Rattle.std.specs.Prelude.{◌≡◌, ℕ, ◌<◌, ◌≤◌, ◌^◌, ℤ, unsigned_abs, Option, Some, None}
use Rattle.rational.specs.Fraction.{Fraction}

abbrev pub IsWithin : ℤ → Type 0
IsWithin z = unsigned_abs z < 2 ^ 127

abbrev pub IsPast : ℤ → Type 0
IsPast z = 2 ^ 127 ≤ unsigned_abs z

-- a fraction whose two numbers are within the bound
pub record IsFrac (x : Fraction) : Type 0 where
  pub num : unsigned_abs x.num < 2 ^ 127
  pub den : x.den < 2 ^ 127

-- the number, or nothing where it is past the bound
abbrev pub KeptWithin : ℤ → Option ℤ → Type 0
KeptWithin z (Some r) = IsWithin z × (r ≡ z)
KeptWithin z None = IsPast z

abbrev pub KeptNatural : ℕ → Option ℕ → Type 0
KeptNatural n (Some r) = (n < 2 ^ 127) × (r ≡ n)
KeptNatural n None = 2 ^ 127 ≤ n
