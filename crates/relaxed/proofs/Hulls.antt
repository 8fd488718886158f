-- What lies in one of two intervals lies in their hull.
use Rattle.std.proofs.Common.{◌≡◌, Bool, true, false, cond, refl, Option, Some, None}
use Rattle.rational.specs.Fraction.{Fraction, ◌≤ℚ◌}
use Rattle.rational.proofs.OrderLaws.{≤ℚ_trans}
use Rattle.relaxed.specs.declared.interval.End.{End}
use Rattle.relaxed.specs.declared.interval.End.TheVariants.{At, Infinite}
use Rattle.relaxed.specs.declared.interval.Interval.{Interval}
use Rattle.relaxed.specs.Interval.{IsAbove, IsBelow, MayBe, is_at_most, lower, higher, hull}
use Rattle.relaxed.proofs.Tests.{at_most-true, at_most-false}

module _ (z : Fraction) where
  lower-left : (a b : End) → IsAbove a z → IsAbove (lower a b) z
  lower-left (At x) (At y) h = by_test (is_at_most x y) refl
    where
      by_test : (b : Bool) → is_at_most x y ≡ b → cond b x y ≤ℚ z
      by_test true e = h
      by_test false e = ≤ℚ_trans y x z (at_most-false x y e) h
  lower-left (At x) Infinite h = tt
  lower-left Infinite b h = tt

  lower-right : (a b : End) → IsAbove b z → IsAbove (lower a b) z
  lower-right (At x) (At y) h = by_test (is_at_most x y) refl
    where
      by_test : (b : Bool) → is_at_most x y ≡ b → cond b x y ≤ℚ z
      by_test true e = ≤ℚ_trans x y z (at_most-true x y e) h
      by_test false e = h
  lower-right (At x) Infinite h = tt
  lower-right Infinite b h = tt

  higher-left : (a b : End) → IsBelow a z → IsBelow (higher a b) z
  higher-left (At x) (At y) h = by_test (is_at_most x y) refl
    where
      by_test : (b : Bool) → is_at_most x y ≡ b → z ≤ℚ cond b y x
      by_test true e = ≤ℚ_trans z x y h (at_most-true x y e)
      by_test false e = h
  higher-left (At x) Infinite h = tt
  higher-left Infinite b h = tt

  higher-right : (a b : End) → IsBelow b z → IsBelow (higher a b) z
  higher-right (At x) (At y) h = by_test (is_at_most x y) refl
    where
      by_test : (b : Bool) → is_at_most x y ≡ b → z ≤ℚ cond b y x
      by_test true e = h
      by_test false e = ≤ℚ_trans z y x h (at_most-false x y e)
  higher-right (At x) Infinite h = tt
  higher-right Infinite b h = tt

  pub hull-left : (i j : Option Interval) → MayBe i z → MayBe (hull i j) z
  hull-left None j h = absurd h
  hull-left (Some i) None h = h
  hull-left (Some i) (Some j) h = record { low = lower-left i.low j.low h.low; high = higher-left i.high j.high h.high }

  pub hull-right : (i j : Option Interval) → MayBe j z → MayBe (hull i j) z
  hull-right None j h = h
  hull-right (Some i) None h = absurd h
  hull-right (Some i) (Some j) h = record { low = lower-right i.low j.low h.low; high = higher-right i.high j.high h.high }
