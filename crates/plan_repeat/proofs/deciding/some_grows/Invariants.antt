use Rattle.std.proofs.Common.{◌≡◌, ℕ, ◌<◌, get_or}
use lib.IntN.{pos}
use Rattle.rational.specs.Fraction.{whole}
use Rattle.plan_repeat.proofs.deciding.some_grows.Given as goal

abbrev pub invariant-loop-growth : goal.invariant-loop-growth
invariant-loop-growth l = (i : ℕ) → i < l.growth-index → get_or l.growths i (whole (pos 0)) ≡ whole (pos 0)
