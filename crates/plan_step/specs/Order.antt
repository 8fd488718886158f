-- The order of two values, as a test (arithmetic).
use Rattle.std.specs.Prelude.{Bool, not, ◌&&◌, pos}
use lib.Signed.{lt_z}
use Rattle.rational.specs.Fraction.{Fraction, ◌-ℚ◌}
use Rattle.pddl_task.specs.declared.condition.Rel.{Rel}
use Rattle.pddl_task.specs.declared.condition.Rel.TheVariants as rel

-- x < y: the difference is positive
abbrev pub is_less : Fraction → Fraction → Bool
is_less x y = lt_z (pos 0) (y -ℚ x).num

abbrev pub related : Rel → Fraction → Fraction → Bool
related rel.Lt x y = is_less x y
related rel.Le x y = not (is_less y x)
related rel.Eq x y = not (is_less x y) && not (is_less y x)
related rel.Ge x y = not (is_less x y)
related rel.Gt x y = is_less y x
