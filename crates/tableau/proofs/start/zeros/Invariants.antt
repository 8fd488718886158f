use Rattle.std.proofs.Common.{◌≡◌, ℕ, length}
use lib.IntN.{pos}
use Rattle.rational.specs.Fraction.{whole}
use Rattle.tableau.specs.Table.{at}
use Rattle.tableau.proofs.start.zeros.Given as goal

abbrev pub invariant-loop-count : goal.invariant-loop-count
invariant-loop-count l = (length l.v.items ≡ l.count) × ((j : ℕ) → at l.v.items j ≡ whole (pos 0))
