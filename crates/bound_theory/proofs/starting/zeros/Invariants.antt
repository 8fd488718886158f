use Rattle.std.proofs.Common.{◌≡◌, length}
use Rattle.bound_theory.proofs.starting.zeros.Given as goal

abbrev pub invariant-loop-v : goal.invariant-loop-v
invariant-loop-v l = length l.values ≡ l._v
