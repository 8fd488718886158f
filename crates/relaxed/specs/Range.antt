-- The range of a linear expression over a box of intervals, and the operations that are named in taking it (this project).
use Rattle.std.specs.Prelude.{ℕ, Bool, List, [], ◌∷◌, Option, Some, None, pos, if◌then◌else◌}
use lib.Signed.{lt_z}
use Rattle.rational.specs.Fraction.{Fraction, ◌+ℚ◌, ◌*ℚ◌}
use Rattle.rational.specs.Linear.{Terms}
use Rattle.frac128.specs.declared.operations.Op.TheVariants.{Add, Mul}
use Rattle.frac128.specs.declared.operations.Wide.{Wide}
use Rattle.lin.specs.Linear.{Linear}
use Rattle.relaxed.specs.declared.interval.End.{End}
use Rattle.relaxed.specs.declared.interval.End.TheVariants.{At, Infinite}
use Rattle.relaxed.specs.declared.interval.Interval.{Interval}
use Rattle.relaxed.specs.declared.range.Side.{Side}
use Rattle.relaxed.specs.declared.range.Side.TheVariants.{Least, Greatest}

abbrev pub is_positive : Fraction → Bool
is_positive c = lt_z (pos 0) c.num

-- the end of the interval that makes the coefficient times it least, or greatest
abbrev pub end_for : Side → Fraction → Interval → End
end_for Least c i = if is_positive c then i.low else i.high
end_for Greatest c i = if is_positive c then i.high else i.low

-- each coefficient with that end, where all of these are finite
abbrev pub with_pick : Fraction → End → Option (List (Fraction × Fraction)) → Option (List (Fraction × Fraction))
with_pick c (At e) (Some ps) = Some ((c, e) ∷ ps)
with_pick c (At e) None = None
with_pick c Infinite ps = None

abbrev pub picks : Side → (ℕ → Interval) → Terms → Option (List (Fraction × Fraction))
picks side box [] = Some []
picks side box (t ∷ ts) = with_pick t.1 (end_for side t.1 (box t.0)) (picks side box ts)

-- the constant, and then in rising function number each coefficient times its end
abbrev pub sum_from : Fraction → List (Fraction × Fraction) → Fraction
sum_from so_far [] = so_far
sum_from so_far (p ∷ ps) = sum_from (so_far +ℚ p.0 *ℚ p.1) ps

-- with an infinite term the range is infinite
abbrev pub end_of_picks : Fraction → Option (List (Fraction × Fraction)) → End
end_of_picks c (Some ps) = At (sum_from c ps)
end_of_picks c None = Infinite

abbrev pub range_end : Side → (ℕ → Interval) → Linear → End
range_end side box l = end_of_picks l.constant (picks side box l.terms)

-- ---- the operations of taking it; with an infinite term it has none

abbrev pub sum_operations : Fraction → List (Fraction × Fraction) → List Wide
sum_operations so_far [] = []
sum_operations so_far (p ∷ ps) =
    record { op = Mul; x = p.0; y = p.1 } ∷ record { op = Add; x = so_far; y = p.0 *ℚ p.1 } ∷ sum_operations (so_far +ℚ p.0 *ℚ p.1) ps

abbrev pub operations_of_picks : Fraction → Option (List (Fraction × Fraction)) → List Wide
operations_of_picks c (Some ps) = sum_operations c ps
operations_of_picks c None = []

abbrev pub range_operations : Side → (ℕ → Interval) → Linear → List Wide
range_operations side box l = operations_of_picks l.constant (picks side box l.terms)
