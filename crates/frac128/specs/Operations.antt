-- What an operation answers: the exact result, or itself with its operands where a number that it names is past the
-- bound. These are the numbers on the usual way to add and to multiply fractions, each divisor taken out early.
use Rattle.std.specs.Prelude.{◌≡◌, ℕ, ◌*◌, ◌/◌, List, [], ◌∷◌, ℤ, pos, ◌*ℤ◌, ◌+ℤ◌, unsigned_abs, int_div, Option, Some, None, Result, Ok, Err}
use Rattle.std.specs.List.{All, Any}
use Rattle.algebra.specs.Gcd.{gcd}
use Rattle.rational.specs.Fraction.{Fraction, ◌+ℚ◌, ◌*ℚ◌, ◌-ℚ◌, neg_ℚ, inv_ℚ}
use Rattle.frac128.specs.Bounds.{IsWithin, IsPast}
use Rattle.frac128.specs.declared.operations.Op.{Op}
use Rattle.frac128.specs.declared.operations.Op.TheVariants.{Add, Sub, Mul, Div}
use Rattle.frac128.specs.declared.operations.Wide.{Wide}

-- a/b + c/d names a*(d/g) and c*(b/g) for the common divisor g of b and d, their sum t, and the denominator
-- (b/g)*(d/h), where h is what t and g share
abbrev pub sum_numbers : ℤ → ℕ → ℤ → ℕ → List ℤ
sum_numbers a b c d =
    let g = gcd b d in
    let t : ℤ = a *ℤ pos (d / g) +ℤ c *ℤ pos (b / g) in
    let h = gcd (unsigned_abs t) g in
    (a *ℤ pos (d / g)) ∷ (c *ℤ pos (b / g)) ∷ t ∷ pos ((b / g) * (d / h)) ∷ []

-- (a/b) * (c/d) divides a and d by what they share, and c and b; it names the two products
abbrev pub product_numbers : ℤ → ℕ → ℤ → ℕ → List ℤ
product_numbers a b c d =
    let g = gcd (unsigned_abs a) d in
    let h = gcd (unsigned_abs c) b in
    (int_div a (pos g) *ℤ int_div c (pos h)) ∷ pos ((b / h) * (d / g)) ∷ []

-- a difference is the sum with the negative, a quotient the product with the inverse
abbrev pub named_numbers : Op → Fraction → Fraction → List ℤ
named_numbers Add x y = sum_numbers x.num x.den y.num y.den
named_numbers Sub x y = sum_numbers x.num x.den (neg_ℚ y).num (neg_ℚ y).den
named_numbers Mul x y = product_numbers x.num x.den y.num y.den
named_numbers Div x y = product_numbers x.num x.den (inv_ℚ y).num (inv_ℚ y).den

abbrev pub value_of : Op → Fraction → Fraction → Fraction
value_of Add x y = x +ℚ y
value_of Sub x y = x -ℚ y
value_of Mul x y = x *ℚ y
value_of Div x y = x *ℚ inv_ℚ y

-- each named number is within the bound
abbrev pub Fits : Op → Fraction → Fraction → Type 0
Fits op x y = All IsWithin (named_numbers op x y)

-- some named number is past it
abbrev pub Passes : Op → Fraction → Fraction → Type 0
Passes op x y = Any IsPast (named_numbers op x y)

-- the exact value where the named numbers fit, and the operation with its operands where one passes
abbrev pub Answers : Op → Fraction → Fraction → Result Fraction Wide → Type 0
Answers op x y (Ok r) = Fits op x y × (r ≡ value_of op x y)
Answers op x y (Err w) = Passes op x y × (w ≡ record { op = op; x = x; y = y })

-- the same of a sum and a product, which don't know the operation that they serve
abbrev pub SumOrPast : Fraction → Fraction → Option Fraction → Type 0
SumOrPast x y (Some r) = Fits Add x y × (r ≡ x +ℚ y)
SumOrPast x y None = Passes Add x y

abbrev pub ProductOrPast : Fraction → Fraction → Option Fraction → Type 0
ProductOrPast x y (Some r) = Fits Mul x y × (r ≡ x *ℚ y)
ProductOrPast x y None = Passes Mul x y
