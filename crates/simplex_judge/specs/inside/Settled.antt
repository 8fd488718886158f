-- What the steps to a point answer.
use Rattle.std.specs.Prelude.{◌≡◌, ◌<◌, ℕ, length, Vec, Result, Ok, Err}
use Rattle.std.specs.Global.{Global}
use Rattle.frac128.specs.declared.operations.Wide.{Wide}
use Rattle.tableau.specs.Table.{Table, width}
use Rattle.formula.specs.Contents.{Contents}
use Rattle.formula.specs.Meets.{PassesFirst}
use Rattle.formula.specs.declared.point.Point.{Point}
use Rattle.simplex_law.specs.Config.{pair_at, value_of}
use Rattle.simplex_law.specs.declared.pair.Pair.{Pair}
use Rattle.simplex_check.specs.Checks.{ValuePasses}
use Rattle.simplex_judge.specs.declared.pointing.PointFail.{PointFail}
use Rattle.simplex_judge.specs.declared.pointing.PointFail.TheVariants as fail

abbrev pub PairsAnswer : Table → (ℕ → Pair) → Result (Vec Pair Global) PointFail → Type 0
PairsAnswer t place (Ok pairs) = (length pairs.items ≡ width t) × ((i : ℕ) → i < width t → pair_at pairs.items i ≡ value_of t place i)
PairsAnswer t place (Err (fail.Wide w)) = ValuePasses t place w
PairsAnswer t place (Err fail.Memory) = Unit {0}

abbrev pub TestAnswers : Contents → Point → Result (Unit {0}) Wide → Type 0
TestAnswers f p (Ok _) = Unit {0}
TestAnswers f p (Err w) = (b : ℕ) × PassesFirst f p w b
