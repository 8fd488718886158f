use Rattle.std.proofs.Common.{◌≡◌, take}
use Rattle.theory_law.proofs.none.counts_of.Given as goal

abbrev pub invariant-loop-v : goal.invariant-loop-v
invariant-loop-v l = l.counts ≡ take l.v l.formula.counts
