use Rattle.std.proofs.Common.{◌≡◌}
use Rattle.tableau.specs.Table.{numbers_below}
use Rattle.tableau.specs.inside.Basis.{flag}
use Rattle.tableau.proofs.basis.listed.Given as goal

abbrev pub invariant-loop-v : goal.invariant-loop-v
invariant-loop-v l = l.list.items ≡ numbers_below l.v (flag l.basic)
