-- Values so many steps on, where each step grows a function by the same amount, and the operations that make them (this
-- project).
use Rattle.std.specs.Prelude.{◌≡◌, ◌⊎◌, pos}
use Rattle.rational.specs.Fraction.{Fraction, whole, ◌*ℚ◌}
use Rattle.frac128.specs.declared.operations.Op.TheVariants.{Add, Mul}
use Rattle.frac128.specs.declared.operations.Wide.{Wide}
use Rattle.plan_step.specs.Met.{wide}

-- the value x of a function that grows by q, n steps on: `mul q n`, and then `add x` of the product
abbrev pub IsGrowthOp : Fraction → Fraction → Fraction → Wide → Type 0
IsGrowthOp x q n w = (w ≡ wide Mul q n) ⊎ (w ≡ wide Add x (q *ℚ n))

-- a number of steps above 2^127-1 stands as the sum that passes it
abbrev pub above_most : Wide
above_most = wide Add (whole (pos 170141183460469231731687303715884105727)) (whole (pos 1))
