-- What making a point answers.
use Rattle.std.specs.Prelude.{ℕ, ◌<◌, Vec, Result, Ok, Err}
use Rattle.std.specs.Global.{Global}
use Rattle.rational.specs.Fraction.{Fraction}
use Rattle.frac128.specs.declared.fraction.Frac.{Frac}
use Rattle.simplex_law.specs.Config.{Limits}
use Rattle.simplex_law.specs.declared.pair.Pair.{Pair}
use Rattle.simplex_point.specs.Point.{IsInfinitesimal, AtSmallPasses}
use Rattle.simplex_judge.specs.Points.{AreValues, MakingPasses}
use Rattle.simplex_judge.specs.declared.pointing.PointFail.{PointFail}
use Rattle.simplex_judge.specs.declared.pointing.PointFail.TheVariants as fail

abbrev pub ValuesAnswer : (ℕ → Pair) → ℕ → Fraction → Result (Vec Frac Global) PointFail → Type 0
ValuesAnswer value vars d (Ok values) = AreValues value vars d values.items
ValuesAnswer value vars d (Err (fail.Wide w)) = (i : ℕ) × (i < vars) × AtSmallPasses (value i) d w
ValuesAnswer value vars d (Err fail.Memory) = Unit {0}

abbrev pub PointAnswers : Limits → (ℕ → Pair) → ℕ → ℕ → Result (Vec Frac Global) PointFail → Type 0
PointAnswers l value n vars (Ok values) = (d : Fraction) × IsInfinitesimal l value n d × AreValues value vars d values.items
PointAnswers l value n vars (Err (fail.Wide w)) = MakingPasses l value n vars w
PointAnswers l value n vars (Err fail.Memory) = Unit {0}
