-- A point that is made and tested.
use Rattle.std.specs.Prelude.{◌⊎◌, ℕ, ◌<◌, List, length, Result, Ok, Err}
use Rattle.rational.specs.Fraction.{Fraction}
use Rattle.formula.specs.Contents.{Contents}
use Rattle.formula.specs.Meets.{HoldsAt}
use Rattle.formula.specs.declared.point.Point.{Point}
use Rattle.simplex_law.specs.Config.{pair_at}
use Rattle.simplex_law.specs.declared.pair.Pair.{Pair}
use Rattle.simplex_point.specs.Point.{IsInfinitesimal}
use Rattle.simplex_clash.specs.Setting.{limits_of}
use Rattle.simplex_fit.specs.Assigned.{literals_of}
use Rattle.simplex_judge.specs.Points.{IsPointAt, MakingPasses, TestPasses}
use Rattle.simplex_judge.specs.declared.beginning.Begun.{Begun}
use Rattle.simplex_judge.specs.declared.pointing.PointFail.{PointFail}
use Rattle.simplex_judge.specs.declared.pointing.PointFail.TheVariants as fail

-- each point of these values meets the atoms
abbrev pub MakesPoint : Contents → Begun → List Pair → Type 0
MakesPoint f b pairs = (d : Fraction) (p : Point) → IsInfinitesimal (limits_of b.both.lower b.both.upper) (pair_at pairs) (length pairs) d
    → IsPointAt f (literals_of b.signs.items) (pair_at pairs) d p → (k : ℕ) → k < length f.atoms → HoldsAt f p k

abbrev pub SolutionAnswers : Contents → Begun → List Pair → Result Point PointFail → Type 0
SolutionAnswers f b pairs (Ok p) = (d : Fraction) × IsInfinitesimal (limits_of b.both.lower b.both.upper) (pair_at pairs) (length pairs) d × IsPointAt f (literals_of b.signs.items) (pair_at pairs) d p
SolutionAnswers f b pairs (Err (fail.Wide w)) =
    MakingPasses (limits_of b.both.lower b.both.upper) (pair_at pairs) (length pairs) (length f.counts) w
    ⊎ TestPasses f (literals_of b.signs.items) (limits_of b.both.lower b.both.upper) (pair_at pairs) (length pairs) w
SolutionAnswers f b pairs (Err fail.Memory) = Unit {0}
