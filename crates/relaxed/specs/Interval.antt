-- Intervals of fractions, whose ends may be infinite, and the least interval that has two (this project).
use Rattle.std.specs.Prelude.{Bool, Option, Some, None, pos, if◌then◌else◌}
use lib.Signed.{non_neg, lt_z}
use Rattle.rational.specs.Fraction.{Fraction, ◌-ℚ◌, ◌≤ℚ◌}
use Rattle.relaxed.specs.declared.interval.End.{End}
use Rattle.relaxed.specs.declared.interval.End.TheVariants.{At, Infinite}
use Rattle.relaxed.specs.declared.interval.Interval.{Interval}

-- ---- what lies in one

abbrev pub IsAbove : End → Fraction → Type 0
IsAbove (At e) x = e ≤ℚ x
IsAbove Infinite x = Unit {0}

abbrev pub IsBelow : End → Fraction → Type 0
IsBelow (At e) x = x ≤ℚ e
IsBelow Infinite x = Unit {0}

pub record Within (i : Interval) (x : Fraction) : Type 0 where
  pub low : IsAbove i.low x
  pub high : IsBelow i.high x

-- where there is no interval, there is no value
abbrev pub MayBe : Option Interval → Fraction → Type 0
MayBe None x = ⊥
MayBe (Some i) x = Within i x

-- ---- tests

abbrev pub is_at_most : Fraction → Fraction → Bool
is_at_most x y = non_neg (y -ℚ x).num

abbrev pub is_below : Fraction → Fraction → Bool
is_below x y = lt_z (pos 0) (y -ℚ x).num

-- ---- the least interval that has both

abbrev pub lower : End → End → End
lower (At x) (At y) = At (if is_at_most x y then x else y)
lower (At x) Infinite = Infinite
lower Infinite e = Infinite

abbrev pub higher : End → End → End
higher (At x) (At y) = At (if is_at_most x y then y else x)
higher (At x) Infinite = Infinite
higher Infinite e = Infinite

abbrev pub between : End → End → Interval
between low high = record { low = low; high = high }

abbrev pub hull : Option Interval → Option Interval → Option Interval
hull None j = j
hull (Some i) None = Some i
hull (Some i) (Some j) = Some (between (lower i.low j.low) (higher i.high j.high))

abbrev pub point : Fraction → Interval
point x = between (At x) (At x)

abbrev pub everything : Interval
everything = between Infinite Infinite
