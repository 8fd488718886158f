-- A point from an infinitesimal and the values at it.
use Rattle.std.proofs.Common.{inr, ℕ}
use Rattle.std.specs.Prelude.{Vec, Result, Ok, Err}
use Rattle.std.specs.Global.{Global}
use Rattle.rational.specs.Fraction.{Fraction}
use Rattle.frac128.specs.declared.fraction.Frac.{Frac}
use Rattle.simplex_law.specs.Config.{Limits}
use Rattle.simplex_law.specs.declared.pair.Pair.{Pair}
use Rattle.simplex_point.specs.Point.{IsInfinitesimal}
use Rattle.simplex_judge.specs.declared.pointing.PointFail.{PointFail}
use Rattle.simplex_judge.specs.declared.pointing.PointFail.TheVariants as fail
use Rattle.simplex_judge.specs.inside.Pointed.{ValuesAnswer, PointAnswers}

pub pointed : (l : Limits) (value : ℕ → Pair) (n vars : ℕ) (d : Fraction) (r : Result (Vec Frac Global) PointFail) → IsInfinitesimal l value n d → ValuesAnswer value vars d r → PointAnswers l value n vars r
pointed l value n vars d (Ok values) is h = (d, is, h)
pointed l value n vars d (Err (fail.Wide w)) is h = inr (d, is, h.0, h.1, h.2)
pointed l value n vars d (Err fail.Memory) is h = tt
